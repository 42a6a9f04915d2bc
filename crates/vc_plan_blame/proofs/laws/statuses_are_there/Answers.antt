use Rattle.vc_plan_blame.proofs.BlameLaws.Broken.{status_is_there}
use Rattle.vc_plan_blame.proofs.laws.statuses_are_there.Goals as goal

pub returns : goal.returns
returns c = status_is_there
