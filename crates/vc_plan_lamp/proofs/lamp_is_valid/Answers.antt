use Rattle.vc_plan_lamp.proofs.LampLaws.{lamp_is_valid}
use Rattle.vc_plan_lamp.proofs.lamp_is_valid.Goals as goal

pub returns : goal.returns
returns c = lamp_is_valid
