-- The slot is flagged.
use Rattle.std.proofs.Common.{arith, map, not, ◌&&◌}
use Rattle.vc_session_stages.specs.Stages.{was_seen}
use Rattle.vc_session_evaluation.specs.Evaluating.{said_by}
use Rattle.vc_session_evaluation.proofs.FillLemmas.{filled_next}
use Rattle.vc_session_evaluation.proofs.lateness.flag_late.Goals as goal

pub loop-slot-preserved : goal.loop-slot-preserved
loop-slot-preserved c =
    filled_next (λ i. (said_by c.args.last.now).here i
    && not (was_seen c.args.plan.now (map said_by c.args.nets.now) i))
    c.args.late.now c.loop-slot.late c.set.new.self
    c.is_late.result c.loop-slot.slot (omega (arith, c.loop-slot-test.true, c.len-slot-end.ensures, c.requires.late))
    c.loop-slot.invariant c.is_late.ensures c.set.ensures
