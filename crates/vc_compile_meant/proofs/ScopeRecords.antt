-- All that is read and written, as one.
use Rattle.std.proofs.Common.{List}
use Rattle.vc_model_parts.specs.declared.parts.Model.{Model}
use Rattle.vc_plan.specs.declared.plans.Plan.{Plan}
use Rattle.vc_table.specs.declared.table.VariantTable.{VariantTable}
use Rattle.vc_compile_plan.specs.PlanOf.{IsPlanOf}
use Rattle.vc_compile_meant.specs.Scopes.{HasOwnSlots, HasScopes, IsTyped}
use Rattle.vc_compile_meant.specs.Trees.{KeepsObjects}
use Rattle.vc_compile_meant.proofs.ComponentLaws.{component_reads}
use Rattle.vc_compile_meant.proofs.ProcedureLaws.{own_procedures}
use Rattle.vc_compile_meant.proofs.ScopeLaws.{own_reads}
use Rattle.vc_compile_meant.proofs.TupleLaws.{own_slots}

pub has_scopes : (model : Model) (tables : List VariantTable) (plan : Plan) → IsPlanOf model tables plan → IsTyped model
    → HasScopes plan
has_scopes model tables plan is typed =
    let reads = own_reads model tables plan is typed in
    let procedures = own_procedures model tables plan is typed in
    record {
      procedure_reads = procedures.procedure_reads;
      guard_reads = reads.guard_reads;
      requirement_reads = reads.requirement_reads;
      operation_reads = reads.operation_reads;
      line_reads = reads.line_reads;
      component_reads = component_reads model tables plan is typed;
      own_writes = procedures.own_writes;
    }

pub has_own_slots : (model : Model) (tables : List VariantTable) (plan : Plan) → IsPlanOf model tables plan
    → KeepsObjects model
    → IsTyped model → HasOwnSlots plan
has_own_slots model tables plan is keeps typed = record { own_slots = own_slots model tables plan is keeps typed }
