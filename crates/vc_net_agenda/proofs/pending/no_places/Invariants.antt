-- So many places have no number yet.
use Rattle.std.proofs.Common.{◌≡◌, replicate}
use Rattle.vc_net_agenda.proofs.pending.no_places.Given as goal

abbrev pub invariant-loop-place : goal.invariant-loop-place
invariant-loop-place l = l.places ≡ replicate l.place 0
