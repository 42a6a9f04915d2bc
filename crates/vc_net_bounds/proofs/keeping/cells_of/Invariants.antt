-- The cells so far, with those of the rows from here on, are all.
use Rattle.std.proofs.Common.{◌≡◌, ◌++◌, length, map}
use Rattle.vc_net_bounds.specs.Keeping.{cell_of, cells_of}
use Rattle.vc_net_bounds.proofs.keeping.cells_of.Given as goal

abbrev pub invariant-loop-rest : goal.invariant-loop-rest
invariant-loop-rest l = l.cells ++ map (cell_of l.column) l.rest ≡ cells_of l.plan l.column

abbrev pub decreases-loop-rest : goal.decreases-loop-rest
decreases-loop-rest l = length l.rest
