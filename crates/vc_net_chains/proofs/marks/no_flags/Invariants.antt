use Rattle.std.proofs.Common.{◌≡◌, false, replicate}
use Rattle.vc_net_chains.proofs.marks.no_flags.Given as goal

abbrev pub invariant-loop-step : goal.invariant-loop-step
invariant-loop-step l = l.flags ≡ replicate l.step false
