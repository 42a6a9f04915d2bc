-- What is put so far, with those of the rest that are others, is all.
use Rattle.std.proofs.Common.{◌≡◌, ◌++◌, length}
use Rattle.vc_plan_reasons.specs.Refuting.{set_without}
use Rattle.vc_check.proofs.refuting.put_others.Given as goal

abbrev pub invariant-loop-rest : goal.invariant-loop-rest
invariant-loop-rest l =
    l.out ++ set_without l.atom l.rest ≡ l.fn.out ++ set_without l.atom l.set

abbrev pub decreases-loop-rest : goal.decreases-loop-rest
decreases-loop-rest l = length l.rest
