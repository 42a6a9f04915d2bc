use Rattle.std.proofs.Common.{arith}
use Rattle.vc_proc.proofs.OverlayLemmas.{cleared_step}
use Rattle.vc_proc.proofs.overlay.clear_all.Goals as goal

pub loop-place-preserved : goal.loop-place-preserved
loop-place-preserved c =
    cleared_step c.args.entries.now c.loop-place.entries c.set.new.self c.loop-place.place
    (omega (arith, c.loop-place-test.true, c.len-place-end.ensures))
    c.loop-place.invariant.0 c.loop-place.invariant.1 c.set.ensures
