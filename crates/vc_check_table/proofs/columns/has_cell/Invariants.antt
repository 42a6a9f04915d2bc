-- What those from here on say is what all say: those before don't decide it.
use Rattle.std.proofs.Common.{◌≡◌, length}
use Rattle.std.specs.List.{list_all}
use Rattle.vc_plan.specs.TableRows.{columns_of, has_cell}
use Rattle.vc_check_table.specs.Columns.{has_own_cell}
use Rattle.vc_check_table.proofs.columns.has_cell.Given as goal

abbrev pub invariant-loop-rest : goal.invariant-loop-rest
invariant-loop-rest l =
    list_all (has_own_cell l.var l.value l.row) l.rest ≡ has_cell (columns_of l.var l.columns) l.value l.row

abbrev pub decreases-loop-rest : goal.decreases-loop-rest
decreases-loop-rest l = length l.rest
