-- Sources that have a place for each variable of a plan.
use Rattle.std.specs.Prelude.{◌≡◌, length}
use Rattle.vc_plan.specs.declared.plans.Plan.{Plan}
use Rattle.vc_plan.specs.Sources.{Sources}

pub record HasPlaces (plan : Plan) (sources : Sources) : Type 0 where
  pub user : length sources.user ≡ length plan.vars
  pub written : length sources.written ≡ length plan.vars
