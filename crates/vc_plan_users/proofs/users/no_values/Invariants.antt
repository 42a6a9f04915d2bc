use Rattle.std.proofs.Common.{◌≡◌, ◌++◌, None, length, map}
use Rattle.vc_plan_users.proofs.users.no_values.Given as goal

abbrev pub invariant-loop-rest : goal.invariant-loop-rest
invariant-loop-rest l = l.values ++ map (λ x. None) l.rest ≡ map (λ x. None) l.plan.vars

abbrev pub decreases-loop-rest : goal.decreases-loop-rest
decreases-loop-rest l = length l.rest
