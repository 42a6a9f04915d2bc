use Rattle.vc_plan_reasons.proofs.ReasonLaws.Closed.{whole_settles}
use Rattle.vc_plan_reasons.proofs.laws.whole_lists_settle.Goals as goal

pub returns : goal.returns
returns c = whole_settles
