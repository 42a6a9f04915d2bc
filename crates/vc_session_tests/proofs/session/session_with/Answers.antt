-- The lamp's plan is valid.
use Rattle.vc_plan_lamp.proofs.LampLaws.{lamp_is_valid}
use Rattle.vc_session_tests.proofs.session.session_with.Goals as goal

pub start_with-requires-clause-valid : goal.start_with-requires-clause-valid
start_with-requires-clause-valid c = lamp_is_valid c.args.plan.now c.requires.plan
