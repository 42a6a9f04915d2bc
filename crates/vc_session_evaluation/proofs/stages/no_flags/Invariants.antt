use Rattle.std.proofs.Common.{◌≡◌, false, replicate}
use Rattle.vc_session_evaluation.proofs.stages.no_flags.Given as goal

abbrev pub invariant-loop-slot : goal.invariant-loop-slot
invariant-loop-slot l = l.flags ≡ replicate l.slot false
