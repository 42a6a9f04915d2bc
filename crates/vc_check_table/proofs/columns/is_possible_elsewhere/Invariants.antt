-- What those from here on say is what all say: those before don't decide it.
use Rattle.std.proofs.Common.{◌≡◌, length}
use Rattle.std.specs.List.{list_all}
use Rattle.vc_plan.specs.TableRows.{is_possible_in, other_columns}
use Rattle.vc_check_table.specs.Columns.{fits_elsewhere}
use Rattle.vc_check_table.proofs.columns.is_possible_elsewhere.Given as goal

abbrev pub invariant-loop-rest : goal.invariant-loop-rest
invariant-loop-rest g l =
    list_all (fits_elsewhere l.plan (g.V.View.seen l.view) l.var l.row) l.rest
    ≡ is_possible_in l.plan (g.V.View.seen l.view) (other_columns l.var l.columns) l.row

abbrev pub decreases-loop-rest : goal.decreases-loop-rest
decreases-loop-rest g l = length l.rest
