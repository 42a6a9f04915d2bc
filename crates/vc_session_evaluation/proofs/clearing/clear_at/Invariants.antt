-- Nothing is there but for the variables from here on.
use Rattle.std.proofs.Common.{◌≡◌, length}
use Rattle.vc_session_evaluation.specs.Writing.{IsBlankBeside}
use Rattle.vc_session_evaluation.proofs.clearing.clear_at.Given as goal

abbrev pub invariant-loop-rest : goal.invariant-loop-rest
invariant-loop-rest l = record {
  blank : IsBlankBeside l.rest l.overlay;
  long : length l.overlay ≡ length l.fn.overlay;
}

abbrev pub decreases-loop-rest : goal.decreases-loop-rest
decreases-loop-rest l = length l.rest
