-- Those so far are served.
use Rattle.std.proofs.Common.{take}
use Rattle.std.specs.List.{list_all}
use Rattle.vc_proc_look_ups.specs.LookUps.{Puts, serves_procedure}
use Rattle.vc_proc_look_ups.proofs.look_ups.put_procedures.Given as goal

abbrev pub invariant-loop-procedure : goal.invariant-loop-procedure
invariant-loop-procedure l =
    Puts l.plan l.fn.orders l.orders (list_all (serves_procedure l.orders) (take l.procedure l.procedures))
