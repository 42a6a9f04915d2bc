use Rattle.vc_show.proofs.FittingLaws.{valid_plans_show}
use Rattle.vc_show.proofs.laws.valid_plans_show.Goals as goal

pub returns : goal.returns
returns c = valid_plans_show
