-- What is put so far, with what the steps from here on conclude, is all.
use Rattle.std.proofs.Common.{◌≡◌, ◌++◌, length}
use Rattle.vc_plan_reasons.specs.Checking.{concluded}
use Rattle.vc_check.proofs.citing.put_conclusions.Given as goal

abbrev pub invariant-loop-rest : goal.invariant-loop-rest
invariant-loop-rest l = l.set ++ concluded l.rest ≡ l.fn.set ++ concluded l.steps

abbrev pub decreases-loop-rest : goal.decreases-loop-rest
decreases-loop-rest l = length l.rest
