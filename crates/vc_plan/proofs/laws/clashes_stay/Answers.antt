use Rattle.vc_plan.proofs.PlanLaws.Givers.{clashes_stay}
use Rattle.vc_plan.proofs.laws.clashes_stay.Goals as goal

pub returns : goal.returns
returns c = clashes_stay
