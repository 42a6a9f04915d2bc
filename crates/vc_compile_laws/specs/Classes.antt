-- The variables and sets of a plan's slots are those of their classes.
use Rattle.std.specs.Prelude.{◌≡◌, true}
use Rattle.vc_plan.specs.Classes.{has_its_vars, has_its_sets}
use Rattle.vc_plan.specs.Valid.{each_slot}
use Rattle.vc_plan.specs.declared.plans.Plan.{Plan}

pub record HasClasses (plan : Plan) : Type 0 where
  pub class_vars : each_slot plan (has_its_vars plan) ≡ true
  pub class_sets : each_slot plan (has_its_sets plan) ≡ true
