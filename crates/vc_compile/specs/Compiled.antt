-- What is said of a model that is compiled: that it has a valid plan, or why it has none.
use Rattle.std.specs.Prelude.{ℕ, ◌≡◌, ◌<◌, false, List, length, None, Some}
use Rattle.vc_model.specs.Spelled.{Spells}
use Rattle.vc_model_drafts.specs.Seen.{seen_model}
use Rattle.vc_model_parts.specs.declared.parts.Model.{Model}
use Rattle.vc_table.specs.declared.table.VariantTable.{VariantTable}
use Rattle.vc_types.specs.declared.fault.TypeFaultKind.{TypeFaultKind}
use Rattle.vc_plan.specs.Valid.{IsValid}
use Rattle.vc_plan.specs.declared.plans.Plan.{Plan}
use Rattle.vc_compile_plan.specs.Layouts.{Layout}
use Rattle.vc_compile_plan.specs.Numbering.{drafts_of}
use Rattle.vc_compile_plan.specs.PlanOf.{IsPlanOver}
use Rattle.vc_compile_plan.specs.Refusals.{compile_fault, first_of, most_rules, size_fault, type_faults}
use Rattle.vc_compile_plan.specs.Rules.{rule_drafts}
use Rattle.vc_compile_plan.specs.Slots.{has_too_many_slots, is_too_deep, standings_of}
use Rattle.vc_compile_plan.specs.declared.standings.Standing.{Standing}
use Rattle.vc_compile_plan.specs.Trees.{Spot}
use Rattle.vc_compile_plan.specs.declared.fault.CompileFault.{CompileFault}
use Rattle.vc_compile_plan.specs.declared.fault.CompileFault.TheVariants as faults
use Rattle.vc_compile_laws.specs.Compiles.{AreRead}

-- what stands at the slots of a model that has neither too many levels of them nor too many
pub record IsLaidOut (model : Model) (standings : List Standing) : Type 0 where
  pub levels : is_too_deep model ≡ false
  pub slots : has_too_many_slots model ≡ false
  pub all : standings ≡ standings_of model

-- a fault of a plan's sizes; want of memory tells nothing
abbrev pub IsSizeFault : Plan → CompileFault → Type 0
IsSizeFault plan faults.OutOfMemory = Unit
IsSizeFault plan faults.TooDeep = size_fault plan ≡ Some faults.TooDeep
IsSizeFault plan faults.TooManySlots = size_fault plan ≡ Some faults.TooManySlots
IsSizeFault plan faults.TooManyRules = size_fault plan ≡ Some faults.TooManyRules
IsSizeFault plan faults.TooManyAtoms = size_fault plan ≡ Some faults.TooManyAtoms
IsSizeFault plan faults.TooManyCells = size_fault plan ≡ Some faults.TooManyCells
IsSizeFault plan (faults.Typing kind line) = size_fault plan ≡ Some (faults.Typing kind line)

-- a fault of the plan that a layout has with the tables that were read
abbrev pub IsUntyped : Layout → TypeFaultKind → ℕ → Type 0
IsUntyped layout kind line = first_of (type_faults layout) ≡ Some (record { line = line; kind = kind })

abbrev pub IsTyped : Layout → Type 0
IsTyped layout = first_of (type_faults layout) ≡ None

-- a layout that is typed has a plan of a size that is too large
pub record IsTooLarge (layout : Layout) (tables : List VariantTable) (fault : CompileFault) : Type 0 where
  pub typed : IsTyped layout
  pub plan : Plan
  pub is_its : IsPlanOver layout (drafts_of layout) tables plan
  pub large : size_fault plan ≡ Some fault

-- the plan of a layout that is typed, no size of it too large
pub record IsPlanWithin (layout : Layout) (tables : List VariantTable) (plan : Plan) : Type 0 where
  pub typed : IsTyped layout
  pub is_its : IsPlanOver layout (drafts_of layout) tables plan
  pub within : size_fault plan ≡ None

pub record HasTooManyRules (layout : Layout) : Type 0 where
  pub typed : IsTyped layout
  pub many : most_rules < length (rule_drafts layout)

abbrev pub IsFaultOver : Layout → List VariantTable → CompileFault → Type 0
IsFaultOver layout tables faults.OutOfMemory = Unit
IsFaultOver layout tables faults.TooDeep = ⊥
IsFaultOver layout tables faults.TooManySlots = ⊥
IsFaultOver layout tables faults.TooManyRules = HasTooManyRules layout
IsFaultOver layout tables faults.TooManyAtoms = IsTooLarge layout tables faults.TooManyAtoms
IsFaultOver layout tables faults.TooManyCells = IsTooLarge layout tables faults.TooManyCells
IsFaultOver layout tables (faults.Typing kind line) = IsUntyped layout kind line

-- a model with its tables has a plan, and no fault is told, wherever trees stand in memory
abbrev pub IsSound : Model → List VariantTable → Type 0
IsSound model tables = (p : Spot) → compile_fault p model tables ≡ None

-- a valid plan, wherever a text spells the model and its tables were read with the headers that it gives them
abbrev pub IsValidIfRead : Model → List VariantTable → Plan → Type 0
IsValidIfRead model tables plan = (text : List ℕ) → Spells text (seen_model model) → AreRead model tables → IsValid plan

-- the fault for which a model with its tables has no plan; want of memory tells nothing
abbrev pub IsRefusal : Model → List VariantTable → CompileFault → Type 0
IsRefusal model tables faults.OutOfMemory = Unit
IsRefusal model tables faults.TooDeep = (p : Spot) → compile_fault p model tables ≡ Some faults.TooDeep
IsRefusal model tables faults.TooManySlots = (p : Spot) → compile_fault p model tables ≡ Some faults.TooManySlots
IsRefusal model tables faults.TooManyRules = (p : Spot) → compile_fault p model tables ≡ Some faults.TooManyRules
IsRefusal model tables faults.TooManyAtoms = (p : Spot) → compile_fault p model tables ≡ Some faults.TooManyAtoms
IsRefusal model tables faults.TooManyCells = (p : Spot) → compile_fault p model tables ≡ Some faults.TooManyCells
IsRefusal model tables (faults.Typing kind line) = (p : Spot)
    → compile_fault p model tables ≡ Some (faults.Typing kind line)
