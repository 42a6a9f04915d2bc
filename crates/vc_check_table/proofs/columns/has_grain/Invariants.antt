-- What those from here on say is what all say: those before don't decide it.
use Rattle.std.proofs.Common.{◌≡◌, length}
use Rattle.std.specs.List.{list_all}
use Rattle.vc_plan.specs.TableRows.{columns_of, has_grain}
use Rattle.vc_check_table.specs.Columns.{has_own_grain}
use Rattle.vc_check_table.proofs.columns.has_grain.Given as goal

abbrev pub invariant-loop-rest : goal.invariant-loop-rest
invariant-loop-rest l =
    list_all (has_own_grain l.plan l.var l.grain l.row) l.rest
    ≡ has_grain l.plan l.var (columns_of l.var l.columns) l.grain l.row

abbrev pub decreases-loop-rest : goal.decreases-loop-rest
decreases-loop-rest l = length l.rest
