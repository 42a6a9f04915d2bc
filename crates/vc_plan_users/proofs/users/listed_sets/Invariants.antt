use Rattle.std.proofs.Common.{◌≡◌, ◌++◌, length, map}
use Rattle.vc_plan_users.specs.Choosing.{listed_at}
use Rattle.vc_plan_users.proofs.users.listed_sets.Given as goal

abbrev pub invariant-loop-rest : goal.invariant-loop-rest
invariant-loop-rest l = l.sets.items ++ map (listed_at l.plan) l.rest ≡ map (listed_at l.plan) l.plan.sets

abbrev pub decreases-loop-rest : goal.decreases-loop-rest
decreases-loop-rest l = length l.rest
