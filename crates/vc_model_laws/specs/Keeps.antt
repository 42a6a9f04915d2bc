-- All that a model keeps that some text spells.
use Rattle.vc_model_drafts.specs.Seen.{SeenModel}
use Rattle.vc_model_laws.specs.Components.{KeepsComponents}
use Rattle.vc_model_laws.specs.Headers.{KeepsHeaders}
use Rattle.vc_model_laws.specs.Indices.{KeepsIndices}
use Rattle.vc_model_laws.specs.Kinds.{KeepsKinds}
use Rattle.vc_model_laws.specs.Limits.{KeepsLimits}
use Rattle.vc_model_laws.specs.Lists.{KeepsLists}
use Rattle.vc_model_laws.specs.Names.{KeepsNames}
use Rattle.vc_model_laws.specs.Numbers.{KeepsNumbers}
use Rattle.vc_model_laws.specs.Texts.{KeepsTexts}

pub record Keeps (model : SeenModel) : Type 0 where
  pub names : KeepsNames model
  pub limits : KeepsLimits model
  pub indices : KeepsIndices model
  pub lists : KeepsLists model
  pub texts : KeepsTexts model
  pub numbers : KeepsNumbers model
  pub kinds : KeepsKinds model
  pub components : KeepsComponents model
  pub headers : KeepsHeaders model
