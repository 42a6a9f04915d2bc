-- A table of the plan has few rows, and the order is one for the keys.
use Rattle.std.proofs.Common.{◌^◌, ◌<◌, length, refl, subst, sym}
use Rattle.vc_proc_look_ups.proofs.PutLemmas.{few_rows, own_order}
use Rattle.vc_proc_look_ups.proofs.look_ups.new_order.Goals as goal

pub order_of-requires : goal.order_of-requires
order_of-requires c =
    subst (λ rows. length rows < 2 ^ 32) (sym c.rows_of.ensures)
    (few_rows c.args.plan.now c.args.table c.requires.few)

pub returns-clause-own : goal.returns-clause-own
returns-clause-own c = own_order c.args.table c.args.keys.now
    (record { table = c.args.table; columns = c.in_ok-columns.columns; rows = c.in_ok-rows.rows }) refl
    c.in_ok-columns.ensures
