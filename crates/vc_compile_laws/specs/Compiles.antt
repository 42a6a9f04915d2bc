-- Models that have a plan with their tables, and what each such plan keeps.
use Rattle.std.specs.Prelude.{◌≡◌, ℕ, false, List, slice_get, Some, None, Ok}
use Rattle.vc_model.specs.Spelled.{Spells}
use Rattle.vc_model_drafts.specs.Seen.{seen_model}
use Rattle.vc_model_parts.specs.Headers.{header_of}
use Rattle.vc_model_parts.specs.declared.parts.Model.{Model}
use Rattle.vc_model_parts.specs.declared.parts.Table.{Table}
use Rattle.vc_plan.specs.declared.plans.Plan.{Plan}
use Rattle.vc_table.specs.Records.{Fields}
use Rattle.vc_table.specs.Tables.{rows_of}
use Rattle.vc_table.specs.declared.table.VariantTable.{VariantTable}
use Rattle.vc_compile_plan.specs.Layouts.{layout_of}
use Rattle.vc_compile_plan.specs.PlanOf.{IsPlanOf}
use Rattle.vc_compile_plan.specs.Refusals.{first_of, size_fault, type_faults}
use Rattle.vc_compile_plan.specs.Slots.{has_too_many_slots, is_too_deep}

-- each table that was read has been read with the model's header
abbrev pub AreRead : Model → List VariantTable → Type 0
AreRead model tables =
    (t : ℕ) (table : Table) (read : VariantTable) → slice_get model.tables t ≡ Some table
    → slice_get tables t ≡ Some read
    → (records : List Fields)
    × (rows_of (header_of model.texts model.characteristics table).columns records ≡ Ok read.rows)

-- the plan is the model's, and nothing of it is refused
pub record Compiles (model : Model) (tables : List VariantTable) (plan : Plan) : Type 0 where
  pub is_its : IsPlanOf model tables plan
  pub levels : is_too_deep model ≡ false
  pub slots : has_too_many_slots model ≡ false
  pub typed : first_of (type_faults (layout_of model)) ≡ None
  pub within : size_fault plan ≡ None

-- each plan of a model that some text spells keeps this
abbrev pub CompiledKeeps : (Plan → Type 0) → Type 0
CompiledKeeps Keeps =
    (text : List ℕ) (model : Model) (tables : List VariantTable) (plan : Plan) → Spells text (seen_model model)
    → AreRead model tables → Compiles model tables plan → Keeps plan
