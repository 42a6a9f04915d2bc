use Rattle.vc_proc_look_ups.proofs.PutLemmas.{one_put}
use Rattle.vc_proc_look_ups.proofs.look_ups.put_order.Goals as goal

pub returns : goal.returns
returns c =
    one_put c.args.plan.now c.args.orders.now c.push.new.self c.in_ok-order.order c.args.table c.args.keys.now
    c.in_ok-push.ensures.ok c.requires.of c.in_ok-order.ensures.right c.in_ok-order.ensures.own
