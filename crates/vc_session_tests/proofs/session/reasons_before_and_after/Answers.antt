-- The lamp's plan is valid.
use Rattle.vc_plan_lamp.proofs.LampLaws.{lamp_is_valid}
use Rattle.vc_session_tests.proofs.session.reasons_before_and_after.Goals as goal

pub start-requires : goal.start-requires
start-requires g c = lamp_is_valid c.args.plan.now c.requires.plan

pub reasons-before-requires-clause-valid : goal.reasons-before-requires-clause-valid
reasons-before-requires-clause-valid g c = lamp_is_valid c.args.plan.now c.requires.plan

pub set-requires-clause-valid : goal.set-requires-clause-valid
set-requires-clause-valid g c = lamp_is_valid c.args.plan.now c.requires.plan

pub reasons-after-requires-clause-valid : goal.reasons-after-requires-clause-valid
reasons-after-requires-clause-valid g c = lamp_is_valid c.args.plan.now c.requires.plan
