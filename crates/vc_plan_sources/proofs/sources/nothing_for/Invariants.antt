use Rattle.std.proofs.Common.{◌≡◌, replicate, None}
use Rattle.vc_plan_sources.proofs.sources.nothing_for.Given as goal

abbrev pub invariant-loop-place : goal.invariant-loop-place
invariant-loop-place g l = l.list ≡ replicate l.place None
