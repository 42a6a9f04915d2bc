-- The sorts of a plan's terms: what is counted is a number.
use Rattle.std.specs.Prelude.{◌≡◌, true}
use Rattle.std.specs.List.{list_all}
use Rattle.vc_plan.specs.Typing.{is_numeric}
use Rattle.vc_plan.specs.Valid.{means}
use Rattle.vc_plan.specs.declared.plans.Plan.{Plan}

pub record HasAmounts (plan : Plan) : Type 0 where
  pub quantities : list_all (λ line. means plan (is_numeric plan) line.quantity) plan.lines ≡ true
  pub times : list_all (λ operation. means plan (is_numeric plan) operation.time) plan.operations ≡ true
