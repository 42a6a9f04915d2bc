-- Orders by which all statements of a plan look up.
use Rattle.std.specs.Prelude.{◌≡◌, true}
use Rattle.std.specs.List.{list_all}
use Rattle.vc_plan.specs.declared.plans.Plan.{Plan}
use Rattle.vc_proc_look_ups.specs.declared.look_ups.LookUps.{LookUps}
use Rattle.vc_proc_look_ups.specs.LookUps.{AreLookUpsOf, serves_procedure}

-- orders of the plan's tables, with one for each look-up of its procedures
pub record AreAllLookUpsOf (plan : Plan) (look_ups : LookUps) : Type 0 where
  pub of : AreLookUpsOf plan look_ups
  pub all : list_all (serves_procedure look_ups.orders) plan.procedures ≡ true
