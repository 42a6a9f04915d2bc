use Rattle.vc_plan_reasons.proofs.ReasonLaws.Reaching.{reach_is_least}
use Rattle.vc_plan_reasons.proofs.laws.reach_is_least.Goals as goal

pub returns : goal.returns
returns c = reach_is_least
