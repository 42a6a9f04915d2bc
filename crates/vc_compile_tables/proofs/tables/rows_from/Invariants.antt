use Rattle.std.proofs.Common.{◌≡◌, ◌++◌, drop, map}
use Rattle.vc_compile_tables.proofs.tables.rows_from.Given as goal

abbrev pub invariant-loop-row : goal.invariant-loop-row
invariant-loop-row l =
    l.copy ++ map (λ r. r.cells) (drop l.row-index l.rows) ≡ map (λ r. r.cells) l.rows
