-- The numbers so far, with those from here on, are all.
use Rattle.std.proofs.Common.{◌≡◌}
use Rattle.vc_plan.specs.Domains.{numbers_below}
use Rattle.vc_proc_look_ups.proofs.orders.numbers_below.Given as goal

abbrev pub invariant-loop-number : goal.invariant-loop-number
invariant-loop-number l = l.numbers.items ≡ numbers_below l.number
