-- The count so far with the cells from here on is that of all, as far as it is told.
use Rattle.std.proofs.Common.{◌≡◌, ◌+◌, ◌≤◌, length}
use Rattle.std.specs.List.{filter}
use Rattle.vc_net_bounds.specs.Capping.{capped}
use Rattle.vc_net_bounds.specs.Keeping.{lies_in_piece}
use Rattle.vc_net_bounds.proofs.keeping.count_cells.Given as goal

abbrev pub invariant-loop-rest : goal.invariant-loop-rest
invariant-loop-rest l =
    let lies = lies_in_piece l.piece in
    (capped (l.count + length (filter lies l.rest)) ≡ capped (length (filter lies l.cells))) × (l.count ≤ 500_001)

abbrev pub decreases-loop-rest : goal.decreases-loop-rest
decreases-loop-rest l = length l.rest
