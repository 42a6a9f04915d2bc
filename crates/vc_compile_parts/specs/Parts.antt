-- The parts of a plan on the way to it.
use Rattle.std.specs.Prelude.{◌≡◌, map}
use Rattle.vc_compile_plan.specs.Layouts.{Layout}
use Rattle.vc_compile_plan.specs.Trees.{condition_of, term_of}
use Rattle.vc_compile_parts.specs.declared.numbered.Numbered.{Numbered}
use Rattle.vc_compile_parts.specs.InTurn.{ruled, guarded, required, lined, operated, proceeded}

-- rules and what follows them, with the conditions and terms of a layout's plan
pub record AreNumbered (layout : Layout) (numbered : Numbered) : Type 0 where
  pub conditions : map condition_of numbered.conditions ≡ ((proceeded layout).kept).conditions
  pub terms : map term_of numbered.terms ≡ ((proceeded layout).kept).terms
  pub rules : numbered.rules ≡ (ruled layout).items
  pub guards : (numbered.shown).guards ≡ (guarded layout).items
  pub requirements : (numbered.shown).requirements ≡ (required layout).items
  pub lines : (numbered.shown).lines ≡ (lined layout).items
  pub operations : (numbered.shown).operations ≡ (operated layout).items
  pub procedures : numbered.procedures ≡ (proceeded layout).items
