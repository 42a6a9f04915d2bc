-- The lamp's plan is valid.
use Rattle.vc_plan_lamp.proofs.LampLaws.{lamp_is_valid}
use Rattle.vc_session_tests.proofs.session_evaluation.stages_with.Goals as goal

pub new-requires-clause-valid : goal.new-requires-clause-valid
new-requires-clause-valid c = lamp_is_valid c.args.plan.now c.requires.plan
