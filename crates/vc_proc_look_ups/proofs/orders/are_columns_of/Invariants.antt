-- What the columns from here on say is what all say.
use Rattle.std.proofs.Common.{◌≡◌, drop}
use Rattle.vc_proc_look_ups.specs.Orders.{are_columns_of}
use Rattle.vc_proc_look_ups.proofs.orders.are_columns_of.Given as goal

abbrev pub invariant-loop-place : goal.invariant-loop-place
invariant-loop-place l =
    are_columns_of (drop l.place l.columns) (drop l.place l.keys) ≡ are_columns_of l.columns l.keys
