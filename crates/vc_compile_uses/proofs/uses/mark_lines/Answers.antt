use Rattle.std.proofs.Common.{◌∙◌, ap}
use Rattle.vc_compile_uses.specs.Marks.{mark_all}
use Rattle.vc_compile_uses.proofs.MarkLemmas.{mark_next}
use Rattle.vc_compile_uses.proofs.uses.mark_lines.Goals as goal

pub loop-line-preserved : goal.loop-line-preserved
loop-line-preserved c =
    mark_next (λ line. line.uses) c.args.bill.now c.loop-line.line-index c.line-item.result _ _ _ c.loop-line-test.true
    (c.mark_numbers.ensures ∙ ap (mark_all c.loop-line.marks) c.as_slice.ensures
    ∙ ap (λ line. mark_all c.loop-line.marks line.uses) c.line-item.is)
    c.loop-line.invariant
