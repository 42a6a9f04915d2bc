use Rattle.std.proofs.Common.{◌≡◌, ◌++◌, drop, map}
use Rattle.vc_compile_plan.specs.Tables.{column_from}
use Rattle.vc_compile_tables.proofs.tables.columns_from.Given as goal

abbrev pub invariant-loop-column : goal.invariant-loop-column
invariant-loop-column l =
    l.copy ++ map column_from (drop l.column-index l.columns) ≡ map column_from l.columns
