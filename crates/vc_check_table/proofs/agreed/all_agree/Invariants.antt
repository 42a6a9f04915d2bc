-- What those from here on say is what all say: those before don't decide it.
use Rattle.std.proofs.Common.{◌≡◌, length}
use Rattle.std.specs.List.{filter, list_all}
use Rattle.vc_plan.specs.TableRows.{columns_of, has_cell}
use Rattle.vc_check_table.specs.Columns.{agrees, possible_elsewhere}
use Rattle.vc_check_table.proofs.agreed.all_agree.Given as goal

abbrev pub invariant-loop-rest : goal.invariant-loop-rest
invariant-loop-rest g l =
    list_all (agrees l.plan (g.V.View.seen l.view) l.var l.columns l.value) l.rest
    ≡ list_all (has_cell (columns_of l.var l.columns) l.value)
    (filter (possible_elsewhere l.plan (g.V.View.seen l.view) l.var l.columns) l.rows)

abbrev pub decreases-loop-rest : goal.decreases-loop-rest
decreases-loop-rest g l = length l.rest
