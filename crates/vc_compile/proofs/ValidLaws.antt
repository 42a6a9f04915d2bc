-- A plan within its sizes is valid, where a text spells its model and its tables were read.
use Rattle.std.proofs.Common.{List}
use Rattle.vc_model_parts.specs.declared.parts.Model.{Model}
use Rattle.vc_table.specs.declared.table.VariantTable.{VariantTable}
use Rattle.vc_plan.specs.declared.plans.Plan.{Plan}
use Rattle.vc_compile_plan.specs.Layouts.{layout_of}
use Rattle.vc_compile_plan.specs.declared.standings.Standing.{Standing}
use Rattle.vc_compile_laws.proofs.WholeLaws.{is_valid}
use Rattle.vc_compile.specs.Compiled.{IsLaidOut, IsPlanWithin, IsValidIfRead}

pub plan_is_valid : (model : Model) (tables : List VariantTable) (standings : List Standing) (plan : Plan)
    → IsLaidOut model standings → IsPlanWithin (layout_of model) tables plan → IsValidIfRead model tables plan
plan_is_valid model tables standings plan laid found text spells read =
    is_valid text model tables plan spells read (record {
      is_its = found.is_its;
      levels = laid.levels;
      slots = laid.slots;
      typed = found.typed;
      within = found.within;
    })
