-- The lamp's plan is valid.
use Rattle.vc_plan_lamp.proofs.LampLaws.{lamp_is_valid}
use Rattle.vc_check_tests.proofs.checking.told_of.Goals as goal

pub accepts-requires : goal.accepts-requires
accepts-requires c = lamp_is_valid c.args.plan.now c.requires.plan

pub first_refused-requires-clause-valid : goal.first_refused-requires-clause-valid
first_refused-requires-clause-valid c = lamp_is_valid c.args.plan.now c.requires.plan

pub settled-requires : goal.settled-requires
settled-requires c = lamp_is_valid c.args.plan.now c.requires.plan
