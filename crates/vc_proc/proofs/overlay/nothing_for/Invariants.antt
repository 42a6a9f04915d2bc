use Rattle.std.proofs.Common.{◌≡◌, replicate, None}
use Rattle.vc_proc.proofs.overlay.nothing_for.Given as goal

abbrev pub invariant-loop-place : goal.invariant-loop-place
invariant-loop-place l = l.list ≡ replicate l.place None
