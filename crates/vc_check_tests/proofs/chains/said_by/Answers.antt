-- The lamp's plan is valid.
use Rattle.vc_plan_lamp.proofs.LampLaws.{lamp_is_valid}
use Rattle.vc_check_tests.proofs.chains.said_by.Goals as goal

pub read_chain-requires : goal.read_chain-requires
read_chain-requires c = lamp_is_valid c.args.plan.now c.requires
