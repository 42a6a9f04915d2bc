-- The lamp's plan is valid.
use Rattle.vc_plan_lamp.proofs.LampLaws.{lamp_is_valid}
use Rattle.vc_check_tests.proofs.checking.refuted_by.Goals as goal

pub refutes-r-requires : goal.refutes-r-requires
refutes-r-requires c = lamp_is_valid c.args.plan.now c.requires
