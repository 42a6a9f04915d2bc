-- The sum so far with the numbers from here on is that of all, as far as it is told.
use Rattle.std.proofs.Common.{◌≡◌, ◌+◌, ◌≤◌, length}
use Rattle.vc_net_places.specs.Cells.{total}
use Rattle.vc_net_bounds.specs.Capping.{capped}
use Rattle.vc_net_bounds.proofs.capping.capped_total.Given as goal

abbrev pub invariant-loop-rest : goal.invariant-loop-rest
invariant-loop-rest l = (capped (l.sum + total l.rest) ≡ capped (total l.numbers)) × (l.sum ≤ 500_001)

abbrev pub decreases-loop-rest : goal.decreases-loop-rest
decreases-loop-rest l = length l.rest
