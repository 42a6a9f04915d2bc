use Rattle.std.proofs.Common.{◌≡◌, ◌++◌, length, map}
use Rattle.vc_plan_users.specs.Choosing.{not_held}
use Rattle.vc_plan_users.proofs.users.not_held.Given as goal

abbrev pub invariant-loop-rest : goal.invariant-loop-rest
invariant-loop-rest l = l.listed ++ map not_held l.rest ≡ map not_held l.texts

abbrev pub decreases-loop-rest : goal.decreases-loop-rest
decreases-loop-rest l = length l.rest
