-- The lamp's plan is valid.
use Rattle.vc_plan_lamp.proofs.LampLaws.{lamp_is_valid}
use Rattle.vc_check_tests.proofs.chains.said_of.Goals as goal

pub verify_chain-requires : goal.verify_chain-requires
verify_chain-requires c = lamp_is_valid c.args.plan.now c.requires
