use Rattle.std.proofs.Common.{refl}
use Rattle.vc_compile_cuts.specs.Cutting.{domains_seen}
use Rattle.vc_compile_cuts.specs.Marks.{marks_seen}
use Rattle.vc_compile_cuts.proofs.CuttingLemmas.{cut_next_mark, cut_last}
use Rattle.vc_compile_cuts.proofs.cutting.cut_by_marks.Goals as goal

pub loop-mark-preserved : goal.loop-mark-preserved
loop-mark-preserved c =
    cut_next_mark c.args.marks.now c.loop-mark.mark-index _ _ _ _ c.loop-mark-test.true
    c.in_ok-cut_by_mark.ensures c.loop-mark.invariant

pub returns : goal.returns
returns c =
    cut_last marks_seen c.args.marks.now c.loop-mark.mark-index (domains_seen c.loop-mark.all.items) _ refl
    c.loop-mark-test.false c.loop-mark.invariant
