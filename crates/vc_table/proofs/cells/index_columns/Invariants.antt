use Rattle.std.proofs.Common.{◌≡◌, take}
use Rattle.vc_table.proofs.cells.index_columns.Given as goal

abbrev pub invariant-loop-column : goal.invariant-loop-column
invariant-loop-column l = l.indexed.items ≡ take l.column-index l.columns
