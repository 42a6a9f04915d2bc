use Rattle.std.proofs.Common.{◌≡◌, replicate}
use Rattle.vc_net_bounds.proofs.bounds.sources_of_slots.Given as goal

abbrev pub invariant-loop-slot : goal.invariant-loop-slot
invariant-loop-slot l = l.bounds ≡ replicate l.slot 0
