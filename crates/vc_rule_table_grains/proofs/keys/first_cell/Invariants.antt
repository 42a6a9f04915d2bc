-- The cell of the first of the columns from here on is that of all.
use Rattle.std.proofs.Common.{◌≡◌, length}
use Rattle.vc_plan.specs.TableRows.{columns_of, first_cell}
use Rattle.vc_rule_table_grains.proofs.keys.first_cell.Given as goal

abbrev pub invariant-loop-rest : goal.invariant-loop-rest
invariant-loop-rest l = first_cell (columns_of l.var l.rest) l.row ≡ first_cell (columns_of l.var l.columns) l.row

abbrev pub decreases-loop-rest : goal.decreases-loop-rest
decreases-loop-rest l = length l.rest
