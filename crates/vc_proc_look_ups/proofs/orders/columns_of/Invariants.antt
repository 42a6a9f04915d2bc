-- The columns so far, with those of the keys from here on, are all.
use Rattle.std.proofs.Common.{◌≡◌, take}
use Rattle.vc_proc_look_ups.specs.Orders.{columns_of}
use Rattle.vc_proc_look_ups.proofs.orders.columns_of.Given as goal

abbrev pub invariant-loop-key : goal.invariant-loop-key
invariant-loop-key l = l.columns ≡ columns_of (take l.key-index l.keys)
