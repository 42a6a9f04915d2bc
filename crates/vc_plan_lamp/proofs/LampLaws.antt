-- The plan is valid.
use Rattle.std.proofs.Common.{◌≡◌, refl, subst, sym}
use Rattle.vc_plan.specs.declared.plans.Plan.{Plan}
use Rattle.vc_plan.specs.Valid.{IsValid}
use Rattle.vc_plan.proofs.PlanRows.Facts.{valid_from}
use Rattle.vc_plan_lamp.specs.Lamp.{lamp}

pub lamp_is_valid : (plan : Plan) → plan ≡ lamp → IsValid plan
lamp_is_valid plan is = subst IsValid (sym is) (valid_from lamp refl refl)
