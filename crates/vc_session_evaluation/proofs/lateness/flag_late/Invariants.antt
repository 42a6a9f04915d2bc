-- The slots so far are flagged.
use Rattle.std.proofs.Common.{not, map, ◌&&◌}
use Rattle.vc_session_stages.specs.Stages.{was_seen}
use Rattle.vc_session_evaluation.specs.Evaluating.{said_by}
use Rattle.vc_session_evaluation.proofs.FillLemmas.{IsFilled}
use Rattle.vc_session_evaluation.proofs.lateness.flag_late.Given as goal

abbrev pub invariant-loop-slot : goal.invariant-loop-slot
invariant-loop-slot l =
    IsFilled (λ i. (said_by l.last).here i && not (was_seen l.plan (map said_by l.nets) i)) l.fn.late l.late l.slot
