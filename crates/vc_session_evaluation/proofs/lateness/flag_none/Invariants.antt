-- The slots so far aren't flagged.
use Rattle.std.proofs.Common.{false}
use Rattle.vc_session_evaluation.proofs.FillLemmas.{IsFilled}
use Rattle.vc_session_evaluation.proofs.lateness.flag_none.Given as goal

abbrev pub invariant-loop-slot : goal.invariant-loop-slot
invariant-loop-slot l = IsFilled (λ i. false) l.fn.late l.late l.slot
