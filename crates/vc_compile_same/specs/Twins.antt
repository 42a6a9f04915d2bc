-- Two models of which the same is seen, and what stands beside a model in a layout, a setting and a site.
use Rattle.std.specs.Prelude.{◌≡◌, ℕ, List, map}
use Rattle.vc_model_parts.specs.declared.parts.Model.{Model}
use Rattle.vc_model_parts.specs.declared.parts.NamedDependency.{NamedDependency}
use Rattle.vc_model_parts.specs.declared.parts.Object.{Object}
use Rattle.vc_model_drafts.specs.Seen.{seen_dependency, seen_object}
use Rattle.vc_syntax_tree.specs.declared.Object as syntax
use Rattle.vc_types.specs.Meanings.{Variable}
use Rattle.vc_types.specs.Settings.{Setting}
use Rattle.vc_types.specs.declared.place.Place.{Place}
use Rattle.vc_plan.specs.declared.plans.Slot.{Slot}
use Rattle.vc_plan.specs.declared.plans.TextSet.{TextSet}
use Rattle.vc_plan.specs.declared.plans.Var.{Var}
use Rattle.vc_compile_plan.specs.Layouts.{Layout}
use Rattle.vc_compile_plan.specs.Sites.{Site}
use Rattle.vc_compile_plan.specs.Slots.{standings_of, slots_of}
use Rattle.vc_compile_plan.specs.Texts.{texts_of}
use Rattle.vc_compile_plan.specs.Variables.{vars_of, sets_of}
use Rattle.vc_compile_plan.specs.declared.standings.Standing.{Standing}

-- a model, and the dependencies and objects of another that is alike but for them; of these the same is seen
pub record Twins : Type 0 where
  pub one : Model
  pub dependencies : List NamedDependency
  pub objects : List Object
  pub same_dependencies : map seen_dependency one.dependencies ≡ map seen_dependency dependencies
  pub same_objects : map seen_object one.objects ≡ map seen_object objects

abbrev pub other : Twins → Model
other t = record (t.one) { dependencies = t.dependencies; objects = t.objects }

-- what a layout has beside its model
pub record Laid : Type 0 where
  pub standings : List Standing
  pub slots : List Slot
  pub vars : List Var
  pub sets : List TextSet
  pub texts : List (List ℕ)

abbrev pub laid_out : Model → Laid → Layout
laid_out model l = record {
  model = model;
  standings = l.standings;
  slots = l.slots;
  vars = l.vars;
  sets = l.sets;
  texts = l.texts;
}

abbrev pub laid_of : Model → Laid
laid_of model = record {
  standings = standings_of model;
  slots = slots_of model;
  vars = vars_of model (slots_of model);
  sets = sets_of model (slots_of model);
  texts = texts_of model;
}

-- what a setting has beside its model
abbrev pub set_in : Model → Place → List Variable → Setting
set_in model place variables = record { model = model; place = place; variables = variables }

-- what a site has beside the model
pub record Stand : Type 0 where
  pub place : Place
  pub variables : List Variable
  pub own : ℕ
  pub parent : ℕ
  pub objects : List syntax.Object
  pub slots : List ℕ

abbrev pub site_in : Model → Stand → Site
site_in model s = record {
  setting = set_in model s.place s.variables;
  own = s.own;
  parent = s.parent;
  objects = s.objects;
  slots = s.slots;
}
