use Rattle.vc_plan_blame.proofs.BlameLaws.Citing.{colliding_is_blamed}
use Rattle.vc_plan_blame.proofs.BlameLaws.Clashing.{clashing_is_blamed}
use Rattle.vc_plan_blame.proofs.laws.citing_clashes_refute.Goals as goal

pub returns-clause-collisions : goal.returns-clause-collisions
returns-clause-collisions c = colliding_is_blamed

pub returns-clause-clashes : goal.returns-clause-clashes
returns-clause-clashes c = clashing_is_blamed
