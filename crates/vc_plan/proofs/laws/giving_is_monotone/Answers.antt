use Rattle.vc_plan.proofs.PlanLaws.Givers.{gives_monotonely}
use Rattle.vc_plan.proofs.laws.giving_is_monotone.Goals as goal

pub returns : goal.returns
returns c = gives_monotonely
