-- Laws of the plan of a model.
use Rattle.std.specs.Prelude.{List}
use Rattle.vc_model_parts.specs.declared.parts.Model.{Model}
use Rattle.vc_table.specs.declared.table.VariantTable.{VariantTable}
use Rattle.vc_compile_plan.specs.PlanOf.{plan_of, IsPlanOf}
use Rattle.vc_compile_plan.specs.Trees.{Spot}

-- the plan of a model is one that the model has, wherever its trees stand
abbrev pub DefinedPlansAreOnes : Type 0
DefinedPlansAreOnes = (p : Spot) (model : Model) (tables : List VariantTable)
    → IsPlanOf model tables (plan_of p model tables)
