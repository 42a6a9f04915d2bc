use Rattle.std.proofs.Common.{◌≡◌, replicate, false}
use Rattle.vc_net_agenda.proofs.pending.no_flags.Given as goal

abbrev pub invariant-loop-place : goal.invariant-loop-place
invariant-loop-place l = l.flags ≡ replicate l.place false
