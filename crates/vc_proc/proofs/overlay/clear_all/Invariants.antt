-- Those so far are none, and those from the place on are as before.
use Rattle.std.proofs.Common.{◌≡◌, ◌++◌, length, drop, replicate, None}
use Rattle.vc_proc.proofs.overlay.clear_all.Given as goal

abbrev pub invariant-loop-place : goal.invariant-loop-place
invariant-loop-place l =
    (l.entries ≡ replicate l.place None ++ drop l.place l.fn.entries) × (length l.entries ≡ length l.fn.entries)
