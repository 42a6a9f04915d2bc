use Rattle.std.specs.Prelude.{◌≡◌, length, max}
use Rattle.vc_plan.specs.Writes.{greatest_depth}
use Rattle.vc_plan.proofs.counts.greatest_depth.Given as goal

abbrev pub decreases-loop-rest : goal.decreases-loop-rest
decreases-loop-rest l = length l.rest

-- the depth so far and that of the rest are that of all
abbrev pub invariant-loop-rest : goal.invariant-loop-rest
invariant-loop-rest l = max l.greatest (greatest_depth l.rest) ≡ greatest_depth l.slots
