use Rattle.std.proofs.Common.{arith, refl, subst, sym}
use Rattle.vc_proc_look_ups.specs.LookUps.{Puts, serves_statement}
use Rattle.vc_proc_look_ups.proofs.PutLemmas.{none_put, puts_all, puts_next, statement_kept}
use Rattle.vc_proc_look_ups.proofs.look_ups.put_statements.Goals as goal

pub loop-statement-init : goal.loop-statement-init
loop-statement-init c = none_put c.args.plan.now c.args.orders.now _ c.requires.of refl

pub loop-statement-preserved : goal.loop-statement-preserved
loop-statement-preserved c =
    puts_next serves_statement statement_kept c.args.plan.now c.args.orders.now c.loop-statement.orders
    c.put_action.new.orders
    c.args.statements.now c.loop-statement.statement c.index-statements-statement.result
    (omega (arith, c.loop-statement-test.true))
    c.index-statements-statement.is c.loop-statement.invariant
    (subst (λ one. Puts c.args.plan.now c.loop-statement.orders c.put_action.new.orders
    (serves_statement c.put_action.new.orders one))
    (sym c.index-statements-statement.is) c.in_ok-put_action.ensures)

pub returns : goal.returns
returns c =
    puts_all (serves_statement c.loop-statement.orders) c.args.plan.now c.args.orders.now c.loop-statement.orders
    c.args.statements.now
    c.loop-statement.statement (omega (arith, c.loop-statement-test.false)) c.loop-statement.invariant
