-- What is put, with the procedures to come, is all of it.
use Rattle.std.proofs.Common.{◌≡◌, ◌++◌, drop}
use Rattle.std.specs.List.{flat_map}
use Rattle.vc_session_evaluation.specs.Writing.{procedure_written}
use Rattle.vc_session_evaluation.proofs.writing.put_procedures.Given as goal

abbrev pub invariant-loop-procedure : goal.invariant-loop-procedure
invariant-loop-procedure l =
    l.vars ++ flat_map procedure_written (drop l.procedure-index l.procedures)
    ≡ l.initial.vars ++ flat_map procedure_written l.procedures
