-- What follows for two models of which the same is seen.
use Rattle.std.specs.Prelude.{◌≡◌, List}
use Rattle.vc_model_parts.specs.declared.parts.Model.{Model}
use Rattle.vc_model_drafts.specs.Seen.{seen_model}
use Rattle.vc_table.specs.declared.table.VariantTable.{VariantTable}
use Rattle.vc_plan.specs.declared.plans.Plan.{Plan}
use Rattle.vc_compile_plan.specs.PlanOf.{IsPlanOf}
use Rattle.vc_compile_plan.specs.Refusals.{compile_fault}
use Rattle.vc_compile_plan.specs.Trees.{Spot}

-- they are refused for the same fault
abbrev pub FaultsAreSeen : Type 0
FaultsAreSeen = (m n : Model) (tables : List VariantTable) → seen_model m ≡ seen_model n → (p : Spot)
    → compile_fault p m tables ≡ compile_fault p n tables

-- a plan of one is a plan of the other
abbrev pub PlansAreSeen : Type 0
PlansAreSeen = (m n : Model) (tables : List VariantTable) (plan : Plan) → seen_model m ≡ seen_model n
    → IsPlanOf m tables plan → IsPlanOf n tables plan
