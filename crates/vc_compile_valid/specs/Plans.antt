-- What each plan of a model keeps.
use Rattle.std.specs.Prelude.{List}
use Rattle.vc_model_parts.specs.declared.parts.Model.{Model}
use Rattle.vc_plan.specs.declared.plans.Plan.{Plan}
use Rattle.vc_table.specs.declared.table.VariantTable.{VariantTable}
use Rattle.vc_compile_plan.specs.PlanOf.{IsPlanOf}

abbrev pub PlansKeep : (Model → Plan → Type 0) → Type 0
PlansKeep Keeps = (model : Model) (tables : List VariantTable) (plan : Plan) → IsPlanOf model tables plan
    → Keeps model plan
