-- The slot is flagged.
use Rattle.std.proofs.Common.{ap, arith, map, not}
use Rattle.vc_session_stages.specs.Stages.{was_seen}
use Rattle.vc_session_evaluation.specs.Evaluating.{said_by}
use Rattle.vc_session_evaluation.proofs.FillLemmas.{filled_next}
use Rattle.vc_session_evaluation.proofs.lateness.flag_missing.Goals as goal

pub loop-slot-preserved : goal.loop-slot-preserved
loop-slot-preserved c =
    filled_next (λ i. not (was_seen c.args.plan.now (map said_by c.args.nets.now) i)) c.args.late.now c.loop-slot.late
    c.set.new.self
    (not c.was_here.result) c.loop-slot.slot
    (omega (arith, c.loop-slot-test.true, c.len-slot-end.ensures, c.requires.late))
    c.loop-slot.invariant (ap not c.was_here.ensures) c.set.ensures
