-- The lamp's plan is valid.
use Rattle.vc_plan_lamp.proofs.LampLaws.{lamp_is_valid}
use Rattle.vc_store_tests.proofs.saved.is_no_json.Goals as goal

pub read_saved-read-requires : goal.read_saved-read-requires
read_saved-read-requires c = lamp_is_valid c.args.plan.now c.requires
