-- What is put, with the statements to come, is all of it.
use Rattle.std.proofs.Common.{◌≡◌, ◌++◌, drop}
use Rattle.std.specs.List.{flat_map}
use Rattle.vc_session_evaluation.specs.Writing.{statement_written}
use Rattle.vc_session_evaluation.proofs.writing.put_statements.Given as goal

abbrev pub invariant-loop-statement : goal.invariant-loop-statement
invariant-loop-statement l =
    l.vars ++ flat_map statement_written (drop l.statement-index l.statements)
    ≡ l.initial.vars ++ flat_map statement_written l.statements
