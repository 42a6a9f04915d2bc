use Rattle.std.proofs.Common.{◌∙◌, ap, sym}
use Rattle.std.specs.List.{find}
use Rattle.vc_proc_look_ups.specs.LookUps.{has_order}
use Rattle.vc_proc_look_ups.specs.Orders.{is_for}
use Rattle.vc_proc_look_ups.proofs.PutLemmas.{any_found, none_put}
use Rattle.vc_proc_look_ups.proofs.look_ups.put_look_up.Goals as goal

pub returns-in-Some : goal.returns-in-Some
returns-in-Some c =
    let orders = c.args.orders.now in
    let test = is_for c.args.table c.args.keys.now in
    none_put c.args.plan.now orders (has_order c.args.table c.args.keys.now orders) c.requires.of
    (any_found test orders _ (ap (find test) (sym c.as_slice.ensures) ∙ c.in-Some.ensures.some))
