-- The lamp's plan is valid.
use Rattle.vc_plan_lamp.proofs.LampLaws.{lamp_is_valid}
use Rattle.vc_store_tests.proofs.saved.fault.Goals as goal

pub read_saved-requires : goal.read_saved-requires
read_saved-requires c = lamp_is_valid c.args.plan.now c.requires
