-- What is raised so far, with the variables from here on, is all.
use Rattle.std.proofs.Common.{◌≡◌, length}
use Rattle.vc_net_places.specs.Cells.{all_places}
use Rattle.vc_net_bounds.specs.Keeping.{IsKept}
use Rattle.vc_net_bounds.specs.Raising.{raised_narrowed}
use Rattle.vc_net_bounds.proofs.tables.raise_all_narrowed.Given as goal

abbrev pub invariant-loop-rest : goal.invariant-loop-rest
invariant-loop-rest l =
    (raised_narrowed l.plan l.table l.columns l.bound l.rest l.bounds
    ≡ raised_narrowed l.plan l.table l.columns l.bound l.vars l.fn.bounds)
    × ((length l.bounds ≡ length (all_places l.plan)) × IsKept l.plan l.kept)

abbrev pub decreases-loop-rest : goal.decreases-loop-rest
decreases-loop-rest l = length l.rest
