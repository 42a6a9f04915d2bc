-- What is copied so far, with what was there from the place on, is the list.
use Rattle.std.proofs.Common.{◌≡◌, ◌++◌, length, take, drop}
use Rattle.vc_plan_sources.proofs.sources.copy_all.Given as goal

abbrev pub invariant-loop-place : goal.invariant-loop-place
invariant-loop-place g l =
    (l.list ≡ take l.place l.from ++ drop l.place l.fn.list) × (length l.list ≡ length l.from)
