-- The lamp's plan is valid.
use Rattle.vc_plan_lamp.proofs.LampLaws.{lamp_is_valid}
use Rattle.vc_app_tests.proofs.desk_shown.session_of.Goals as goal

pub start-requires : goal.start-requires
start-requires g c = lamp_is_valid c.args.plan.now c.requires.plan

pub tells-told-requires-clause-valid : goal.tells-told-requires-clause-valid
tells-told-requires-clause-valid g c = lamp_is_valid c.args.plan.now c.requires.plan
