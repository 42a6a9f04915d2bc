-- What the columns from here on say is what all say.
use Rattle.std.proofs.Common.{◌≡◌, length}
use Rattle.vc_plan.specs.TableRows.{columns_of, has_cell}
use Rattle.vc_rule_table_saying.proofs.agreed.has_cell.Given as goal

abbrev pub invariant-loop-rest : goal.invariant-loop-rest
invariant-loop-rest l = has_cell (columns_of l.var l.rest) l.value l.row
    ≡ has_cell (columns_of l.var l.columns) l.value l.row

abbrev pub decreases-loop-rest : goal.decreases-loop-rest
decreases-loop-rest l = length l.rest
