use Rattle.std.proofs.Common.{ap, ◌∙◌}
use Rattle.vc_compile_layout.specs.Standing.{layout_seen}
use Rattle.vc_compile_typing.specs.Finding.{first_with, seen_if}
use Rattle.vc_compile_typing.proofs.FindingLemmas.{typed_step}
use Rattle.vc_compile_plan.specs.Refusals.{typed_operation}
use Rattle.vc_compile_typing.proofs.slots.with_operations.Goals as goal

pub loop-operation-preserved : goal.loop-operation-preserved
loop-operation-preserved c =
    let layout = layout_seen c.args.layout.now in
    typed_step layout.model (typed_operation layout c.args.slot.now) c.args.operations.now
    c.loop-operation.operation-index c.operation-item.result _
    (seen_if c.loop-operation.first) _ c.loop-operation-test.true c.loop-operation.invariant
    (c.in_ok-first.ensures
    ∙ ap (λ one. first_with layout.model (seen_if c.loop-operation.first) (typed_operation layout c.args.slot.now one))
    c.operation-item.is)
