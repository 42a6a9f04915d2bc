-- The lamp's plan is valid.
use Rattle.vc_plan_lamp.proofs.LampLaws.{lamp_is_valid}
use Rattle.vc_http_talk.proofs.tests.desk_of.Goals as goal

pub new-desk-requires : goal.new-desk-requires
new-desk-requires g c = lamp_is_valid c.args.plan c.requires.plan
