use Rattle.std.specs.Prelude.{◌≡◌, ◌+◌, ◌++◌, length}
use Rattle.vc_net_places.specs.Cells.{begins_from, total}
use Rattle.vc_net_places.proofs.cells.Cells.new.Given as goal

abbrev pub invariant-loop-rest : goal.invariant-loop-rest
invariant-loop-rest l =
    (l.begins ++ begins_from l.end l.rest ≡ begins_from 0 l.bounds) × (l.end + total l.rest ≡ total l.bounds)

abbrev pub decreases-loop-rest : goal.decreases-loop-rest
decreases-loop-rest l = length l.rest
