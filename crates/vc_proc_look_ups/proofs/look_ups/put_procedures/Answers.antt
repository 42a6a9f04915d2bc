use Rattle.std.proofs.Common.{◌∙◌, ap, arith, refl, subst, sym}
use Rattle.std.specs.List.{list_all}
use Rattle.vc_proc_look_ups.specs.LookUps.{Puts, serves_procedure, serves_statement}
use Rattle.vc_proc_look_ups.proofs.PutLemmas.{none_put, puts_all, puts_next, procedure_kept}
use Rattle.vc_proc_look_ups.proofs.look_ups.put_procedures.Goals as goal

pub loop-procedure-init : goal.loop-procedure-init
loop-procedure-init c = none_put c.args.plan.now c.args.orders.now _ c.requires.of refl

pub loop-procedure-preserved : goal.loop-procedure-preserved
loop-procedure-preserved c =
    puts_next serves_procedure procedure_kept c.args.plan.now c.args.orders.now c.loop-procedure.orders
    c.put_statements.new.orders
    c.args.procedures.now c.loop-procedure.procedure c.index-procedures-procedure.result
    (omega (arith, c.loop-procedure-test.true))
    c.index-procedures-procedure.is c.loop-procedure.invariant
    (subst (Puts c.args.plan.now c.loop-procedure.orders c.put_statements.new.orders)
    (ap (list_all (serves_statement c.put_statements.new.orders)) c.as_slice.ensures
    ∙ ap (serves_procedure c.put_statements.new.orders)
    (sym c.index-procedures-procedure.is)) c.in_ok-put_statements.ensures)

pub returns : goal.returns
returns c =
    puts_all (serves_procedure c.loop-procedure.orders) c.args.plan.now c.args.orders.now c.loop-procedure.orders
    c.args.procedures.now
    c.loop-procedure.procedure (omega (arith, c.loop-procedure-test.false)) c.loop-procedure.invariant
