-- The grains of a plan's variables.
use Rattle.std.specs.Prelude.{◌≡◌, true}
use Rattle.vc_plan.specs.Cuts.{is_cut}
use Rattle.vc_plan.specs.Valid.{each_var}
use Rattle.vc_plan.specs.declared.plans.Plan.{Plan}

-- each lies on one side of every number that stands against its variable, or is the number
pub record IsCut (plan : Plan) : Type 0 where
  pub cut : each_var plan (is_cut plan) ≡ true
