use Rattle.std.proofs.Common.{◌∙◌, ap, subst, sym}
use Rattle.std.proofs.lemmas.Result.{on_ok_weaker}
use Rattle.vc_proc_look_ups.specs.LookUps.{Puts, has_order, serves}
use Rattle.vc_proc_look_ups.proofs.PutLemmas.{none_put}
use Rattle.vc_proc_look_ups.proofs.look_ups.put_action.Goals as goal

pub returns-in-Assign : goal.returns-in-Assign
returns-in-Assign c =
    none_put c.args.plan.now c.args.orders.now (serves c.args.orders.now c.args.action.now) c.requires.of
    (ap (serves c.args.orders.now) c.in-Assign.is)

pub returns-in-SetDefault : goal.returns-in-SetDefault
returns-in-SetDefault c =
    none_put c.args.plan.now c.args.orders.now (serves c.args.orders.now c.args.action.now) c.requires.of
    (ap (serves c.args.orders.now) c.in-SetDefault.is)

pub returns-in-DeleteDefault : goal.returns-in-DeleteDefault
returns-in-DeleteDefault c =
    none_put c.args.plan.now c.args.orders.now (serves c.args.orders.now c.args.action.now) c.requires.of
    (ap (serves c.args.orders.now) c.in-DeleteDefault.is)

pub returns-in-LookUp : goal.returns-in-LookUp
returns-in-LookUp c =
    let new = c.put_look_up.new.orders in
    on_ok_weaker c.put_look_up.result
    (λ puts. subst (Puts c.args.plan.now c.args.orders.now new)
    (ap (λ keys. has_order c.in-LookUp.table keys new) c.as_slice.ensures ∙ sym (ap (serves new) c.in-LookUp.is)) puts)
    c.put_look_up.ensures
