use Rattle.vc_plan_reasons.proofs.ReasonLaws.Closed.{accepted_unrefused}
use Rattle.vc_plan_reasons.proofs.laws.accepted_is_unrefused.Goals as goal

pub returns : goal.returns
returns c = accepted_unrefused
