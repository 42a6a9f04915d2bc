use Rattle.vc_plan.proofs.PlanLaws.Rounds.{settles_least}
use Rattle.vc_plan.proofs.laws.settling_is_least.Goals as goal

pub returns : goal.returns
returns c = settles_least
