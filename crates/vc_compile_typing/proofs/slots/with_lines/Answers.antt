use Rattle.std.proofs.Common.{ap, ◌∙◌}
use Rattle.vc_compile_layout.specs.Standing.{layout_seen}
use Rattle.vc_compile_typing.specs.Finding.{first_with, seen_if}
use Rattle.vc_compile_typing.proofs.FindingLemmas.{typed_step}
use Rattle.vc_compile_plan.specs.Refusals.{typed_line}
use Rattle.vc_compile_typing.proofs.slots.with_lines.Goals as goal

pub loop-item-preserved : goal.loop-item-preserved
loop-item-preserved c =
    let layout = layout_seen c.args.layout.now in
    typed_step layout.model (typed_line layout c.args.slot.now) c.args.bill.now c.loop-item.item-index
    c.item-item.result _
    (seen_if c.loop-item.first) _ c.loop-item-test.true c.loop-item.invariant
    (c.in_ok-first.ensures
    ∙ ap (λ one. first_with layout.model (seen_if c.loop-item.first) (typed_line layout c.args.slot.now one))
    c.item-item.is)
