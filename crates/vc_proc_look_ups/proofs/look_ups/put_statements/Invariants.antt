-- Those so far are served.
use Rattle.std.proofs.Common.{take}
use Rattle.std.specs.List.{list_all}
use Rattle.vc_proc_look_ups.specs.LookUps.{Puts, serves_statement}
use Rattle.vc_proc_look_ups.proofs.look_ups.put_statements.Given as goal

abbrev pub invariant-loop-statement : goal.invariant-loop-statement
invariant-loop-statement l =
    Puts l.plan l.fn.orders l.orders (list_all (serves_statement l.orders) (take l.statement l.statements))
