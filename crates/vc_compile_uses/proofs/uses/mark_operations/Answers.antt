use Rattle.std.proofs.Common.{◌∙◌, ap}
use Rattle.vc_compile_uses.specs.Marks.{mark_all}
use Rattle.vc_compile_uses.proofs.MarkLemmas.{mark_next}
use Rattle.vc_compile_uses.proofs.uses.mark_operations.Goals as goal

pub loop-operation-preserved : goal.loop-operation-preserved
loop-operation-preserved c =
    mark_next (λ operation. operation.uses) c.args.operations.now c.loop-operation.operation-index
    c.operation-item.result _ _ _
    c.loop-operation-test.true
    (c.mark_numbers.ensures ∙ ap (mark_all c.loop-operation.marks) c.as_slice.ensures
    ∙ ap (λ operation. mark_all c.loop-operation.marks operation.uses) c.operation-item.is)
    c.loop-operation.invariant
