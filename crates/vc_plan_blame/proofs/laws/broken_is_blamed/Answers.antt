use Rattle.vc_plan_blame.proofs.BlameLaws.Broken.{broken_is_blamed}
use Rattle.vc_plan_blame.proofs.laws.broken_is_blamed.Goals as goal

pub returns : goal.returns
returns c = broken_is_blamed
