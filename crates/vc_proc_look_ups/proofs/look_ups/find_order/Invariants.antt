-- The first from here on is the first of all.
use Rattle.std.proofs.Common.{◌≡◌, length}
use Rattle.std.specs.List.{find}
use Rattle.vc_proc_look_ups.specs.Orders.{is_for}
use Rattle.vc_proc_look_ups.proofs.look_ups.find_order.Given as goal

abbrev pub invariant-loop-rest : goal.invariant-loop-rest
invariant-loop-rest l = find (is_for l.table l.keys) l.rest ≡ find (is_for l.table l.keys) l.orders

abbrev pub decreases-loop-rest : goal.decreases-loop-rest
decreases-loop-rest l = length l.rest
