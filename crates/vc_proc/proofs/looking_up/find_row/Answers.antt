-- The order has the table's rows.
use Rattle.std.proofs.Common.{subst, sym}
use Rattle.vc_plan.specs.TableRows.{rows_of}
use Rattle.vc_proc_look_ups.specs.Orders.{IsOrderOf, columns_of}
use Rattle.vc_proc_look_ups.proofs.OrderLemmas.{found_order}
use Rattle.vc_proc.proofs.looking_up.find_row.Goals as goal

pub find_by_halves-requires-clause-order : goal.find_by_halves-requires-clause-order
find_by_halves-requires-clause-order g c =
    let keys = c.args.keys.now in
    let its
    = found_order c.args.plan.now c.args.look_ups.now.orders c.args.table keys c.in-Some.order.now c.requires.orders
    c.in-Some.ensures.some in
    subst (λ rows. IsOrderOf rows (columns_of keys) c.as_slice.result.now) (sym c.rows_of-rows.ensures)
    (subst (λ numbers. IsOrderOf (rows_of c.args.plan.now c.args.table) (columns_of keys) numbers)
    (sym c.as_slice.ensures) its)
