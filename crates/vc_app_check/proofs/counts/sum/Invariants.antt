-- The sum so far, with the numbers that are left, is all of them.
use Rattle.std.proofs.Common.{◌≡◌, ◌+◌, length}
use Rattle.vc_net_places.specs.Cells.{total}
use Rattle.vc_app_check.proofs.counts.sum.Given as goal

abbrev pub invariant-loop-rest : goal.invariant-loop-rest
invariant-loop-rest l = l.sum + total l.rest ≡ total l.initial.rest

abbrev pub decreases-loop-rest : goal.decreases-loop-rest
decreases-loop-rest l = length l.rest
