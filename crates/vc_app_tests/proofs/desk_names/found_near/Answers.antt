-- The lamp is valid.
use Rattle.vc_plan_lamp.proofs.LampLaws.{lamp_is_valid}
use Rattle.vc_app_tests.proofs.desk_names.found_near.Goals as goal

pub find_named_near-requires : goal.find_named_near-requires
find_named_near-requires c = lamp_is_valid c.args.plan.now c.requires
