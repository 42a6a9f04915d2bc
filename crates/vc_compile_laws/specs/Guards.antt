-- The preconditions and requirements of a plan.
use Rattle.std.specs.Prelude.{◌≡◌, true}
use Rattle.std.specs.List.{list_all}
use Rattle.vc_plan.specs.BillRanges.{guard_there, requirement_there}
use Rattle.vc_plan.specs.LookUps.{guard_listed}
use Rattle.vc_plan.specs.declared.plans.Plan.{Plan}

pub record HasGuards (plan : Plan) : Type 0 where
  pub guards_there : list_all (guard_there plan) plan.guards ≡ true
  pub requirements_there : list_all (requirement_there plan) plan.requirements ≡ true
  pub guards : list_all (guard_listed plan) plan.guards ≡ true
