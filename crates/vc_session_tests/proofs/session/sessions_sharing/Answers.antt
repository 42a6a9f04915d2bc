-- The lamp's plan is valid.
use Rattle.vc_plan_lamp.proofs.LampLaws.{lamp_is_valid}
use Rattle.vc_session_tests.proofs.session.sessions_sharing.Goals as goal

pub new-requires : goal.new-requires
new-requires g c = lamp_is_valid c.args.plan.now c.requires.plan

pub edits-done-requires-clause-valid : goal.edits-done-requires-clause-valid
edits-done-requires-clause-valid g c = lamp_is_valid c.args.plan.now c.requires.plan

pub edits-done_too-requires-clause-valid : goal.edits-done_too-requires-clause-valid
edits-done_too-requires-clause-valid g c = lamp_is_valid c.args.plan.now c.requires.plan
