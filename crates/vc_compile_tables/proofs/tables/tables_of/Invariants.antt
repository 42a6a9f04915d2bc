use Rattle.std.proofs.Common.{◌≡◌, ◌++◌, drop, map}
use Rattle.vc_compile_plan.specs.Tables.{tables_from, tables_of}
use Rattle.vc_compile_tables.proofs.tables.tables_of.Given as goal

abbrev pub invariant-loop-number : goal.invariant-loop-number
invariant-loop-number l =
    l.tables ++ tables_from l.read l.number (drop l.number l.model.tables) ≡ tables_of l.model l.read
