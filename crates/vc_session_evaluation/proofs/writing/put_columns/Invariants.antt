-- What is put, with the columns to come, is all of it.
use Rattle.std.proofs.Common.{◌≡◌, ◌++◌, drop, map}
use Rattle.vc_plan.specs.declared.procedures.FilledColumn.{FilledColumn}
use Rattle.vc_session_evaluation.proofs.writing.put_columns.Given as goal

abbrev pub invariant-loop-column : goal.invariant-loop-column
invariant-loop-column l =
    l.vars ++ map (λ (column : FilledColumn). column.var) (drop l.column-index l.columns)
    ≡ l.initial.vars ++ map (λ (column : FilledColumn). column.var) l.columns
