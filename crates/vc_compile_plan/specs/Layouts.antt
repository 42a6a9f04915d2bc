-- What the trees of dependencies are turned into terms and conditions with: the slots, variables, sets and texts.
use Rattle.std.specs.Prelude.{ℕ, List, slice_get, Option, None, Some, option_map}
use Rattle.vc_model_parts.specs.declared.parts.Model.{Model}
use Rattle.vc_plan.specs.declared.plans.Slot.{Slot}
use Rattle.vc_plan.specs.declared.plans.TextSet.{TextSet}
use Rattle.vc_plan.specs.declared.plans.Var.{Var}
use Rattle.vc_syntax_tree.specs.Trees.{Dependency, dependency_of}
use Rattle.vc_compile_plan.specs.declared.standings.Standing.{Standing}
use Rattle.vc_compile_plan.specs.Slots.{standings_of, slots_of}
use Rattle.vc_compile_plan.specs.Texts.{texts_of}
use Rattle.vc_compile_plan.specs.Variables.{vars_of, sets_of}

pub record Layout : Type 0 where
  pub model : Model
  pub standings : List Standing
  pub slots : List Slot
  pub vars : List Var
  pub sets : List TextSet
  pub texts : List (List ℕ)

abbrev pub layout_over : Model → List Standing → List Slot → Layout
layout_over model standings slots = record {
  model = model;
  standings = standings;
  slots = slots;
  vars = vars_of model slots;
  sets = sets_of model slots;
  texts = texts_of model;
}

abbrev pub layout_of : Model → Layout
layout_of model = layout_over model (standings_of model) (slots_of model)

-- the tree of a dependency, by its number
abbrev pub tree_of : Model → ℕ → Option Dependency
tree_of model d = option_map (λ named. dependency_of named.tree) (slice_get model.dependencies d)

-- the object at a slot, and the slot above it
abbrev pub object_at : Layout → ℕ → Option ℕ
object_at layout i = option_map (λ slot. slot.object) (slice_get layout.slots i)

abbrev pub object_if : Layout → Option ℕ → Option ℕ
object_if layout None = None
object_if layout (Some i) = object_at layout i
