-- What was filled, with the columns from here on, is all.
use Rattle.std.proofs.Common.{◌≡◌, length}
use Rattle.vc_plan.specs.Statements.{with_cells}
use Rattle.vc_proc.specs.Writing.{place_from}
use Rattle.vc_proc.proofs.looking_up.fill_all.Given as goal

abbrev pub invariant-loop-rest : goal.invariant-loop-rest
invariant-loop-rest l =
    with_cells l.plan (place_from l.place) l.row l.rest l.overlay
    ≡ with_cells l.plan (place_from l.place) l.row l.filled l.fn.overlay

abbrev pub decreases-loop-rest : goal.decreases-loop-rest
decreases-loop-rest l = length l.rest
