-- The places of all but constraints: at a slot's characteristics, in its profile, at its lines and operations.
use Rattle.std.specs.Prelude.{ℕ, if◌then◌else◌, List, [], Option, None, Some, option_map, filter_map}
use Rattle.vc_model_parts.specs.declared.parts.Model.{Model}
use Rattle.vc_plan.specs.declared.plans.Slot.{Slot}
use Rattle.vc_syntax_tree.specs.Trees.{Condition, Statement, Dependency, Precondition, Selection, Procedure}
use Rattle.vc_types.specs.Settings.{is_line}
use Rattle.vc_types.specs.declared.place.At.{At}
use Rattle.vc_types.specs.declared.place.At.TheVariants as at
use Rattle.vc_types.specs.declared.place.Place.{Place}
use Rattle.vc_compile_plan.specs.Layouts.{Layout, tree_of, object_if}
use Rattle.vc_compile_plan.specs.Sites.{Site, number_or_zero}

-- a place at a slot: its object, and that of the slot above
abbrev pub place_at : Layout → Slot → At → Place
place_at layout slot at = record { object = slot.object; parent = object_if layout slot.parent; at = at }

-- `$PARENT` in a line is the line's owner itself
abbrev pub site_at : Layout → ℕ → Slot → At → Site
site_at layout i slot at = record {
  setting = record { model = layout.model; place = place_at layout slot at; variables = [] };
  own = i;
  parent = if is_line at then i else number_or_zero slot.parent;
  objects = [];
  slots = [];
}

abbrev pub characteristic_site : Layout → ℕ → Slot → Site
characteristic_site layout i slot = site_at layout i slot at.Characteristic

abbrev pub procedure_site : Layout → ℕ → Slot → Site
procedure_site layout i slot = site_at layout i slot at.Procedure

abbrev pub operation_site : Layout → ℕ → Slot → Site
operation_site layout i slot = site_at layout i slot at.Operation

-- a dependency that asks a condition
pub record Asked : Type 0 where
  pub dependency : ℕ
  pub condition : Condition

-- the preconditions, the selection conditions and the procedures among what is used at a place, in order
abbrev pub precondition_in : Option Dependency → Option Condition
precondition_in (Some (Precondition condition)) = Some condition
precondition_in dependency = None

abbrev pub selection_in : Option Dependency → Option Condition
selection_in (Some (Selection condition)) = Some condition
selection_in dependency = None

abbrev pub statements_in : Option Dependency → Option (List Statement)
statements_in (Some (Procedure statements)) = Some statements
statements_in dependency = None

abbrev pub asked_by : (Option Dependency → Option Condition) → Model → List ℕ → List Asked
asked_by condition_in model uses =
    filter_map (λ d. option_map (λ condition. record { dependency = d; condition = condition })
    (condition_in (tree_of model d))) uses

abbrev pub preconditions_among : Model → List ℕ → List Asked
preconditions_among = asked_by precondition_in

abbrev pub selections_among : Model → List ℕ → List Asked
selections_among = asked_by selection_in
