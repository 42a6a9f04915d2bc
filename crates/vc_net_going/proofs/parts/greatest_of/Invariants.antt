-- The greatest so far, or of those from here on, is the greatest of all.
use Rattle.std.proofs.Common.{◌≡◌, length}
use Rattle.std.specs.Prelude.{max}
use Rattle.vc_plan.specs.Bounds.{greatest}
use Rattle.vc_net_going.proofs.parts.greatest_of.Given as goal

abbrev pub invariant-loop-rest : goal.invariant-loop-rest
invariant-loop-rest l = max l.greatest (greatest (λ n. n) l.rest) ≡ greatest (λ n. n) l.numbers

abbrev pub decreases-loop-rest : goal.decreases-loop-rest
decreases-loop-rest l = length l.rest
