-- What those from here on say is what all say: those before don't decide it.
use Rattle.std.proofs.Common.{◌≡◌, length}
use Rattle.std.specs.Prelude.{find}
use Rattle.vc_check_table.specs.Columns.{possible_elsewhere}
use Rattle.vc_check_table.proofs.agreed.first_possible.Given as goal

abbrev pub invariant-loop-rest : goal.invariant-loop-rest
invariant-loop-rest g l =
    find (possible_elsewhere l.plan (g.V.View.seen l.view) l.var l.columns) l.rest
    ≡ find (possible_elsewhere l.plan (g.V.View.seen l.view) l.var l.columns) l.rows

abbrev pub decreases-loop-rest : goal.decreases-loop-rest
decreases-loop-rest g l = length l.rest
