use Rattle.vc_plan.proofs.PlanLaws.Rounds.{settles_below_closed}
use Rattle.vc_plan.proofs.laws.closed_sets_settle.Goals as goal

pub returns : goal.returns
returns c = settles_below_closed
