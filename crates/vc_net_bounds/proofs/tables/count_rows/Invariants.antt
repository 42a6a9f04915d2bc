-- The count so far with the rows from here on is that of all, as far as it is told.
use Rattle.std.proofs.Common.{◌≡◌, ◌+◌, ◌≤◌, length}
use Rattle.std.specs.List.{filter}
use Rattle.vc_plan.specs.TableRows.{columns_of, has_grain}
use Rattle.vc_net_bounds.specs.Capping.{capped}
use Rattle.vc_net_bounds.proofs.tables.count_rows.Given as goal

abbrev pub invariant-loop-rest : goal.invariant-loop-rest
invariant-loop-rest l =
    let has = has_grain l.plan l.var (columns_of l.var l.columns) l.grain in
    (capped (l.count + length (filter has l.rest)) ≡ capped (length (filter has l.rows))) × (l.count ≤ 500_001)

abbrev pub decreases-loop-rest : goal.decreases-loop-rest
decreases-loop-rest l = length l.rest
