use Rattle.vc_proc_look_ups.proofs.OrderLemmas.{other_lengths}
use Rattle.vc_proc_look_ups.proofs.orders.are_columns_of.Goals as goal

pub returns-then-columns-keys : goal.returns-then-columns-keys
returns-then-columns-keys c = other_lengths c.args.columns.now c.args.keys.now c.if-columns-keys.true
