use Rattle.vc_plan_blame.proofs.BlameLaws.Unclear.{exhausted_is_touched}
use Rattle.vc_plan_blame.proofs.laws.exhausted_is_touched.Goals as goal

pub returns : goal.returns
returns c = exhausted_is_touched
