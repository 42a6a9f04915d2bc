-- What the calls take for granted of a plan.
use Rattle.std.specs.Prelude.{◌≡◌, ◌<◌, ◌^◌, true, length}
use Rattle.vc_plan.specs.declared.plans.Plan.{Plan}
use Rattle.vc_plan.specs.Valid.{IsValid}
use Rattle.vc_plan_values.specs.Computing.{TermsFit}
use Rattle.vc_rule_readings.specs.Finding.{stands_by}
use Rattle.vc_show.specs.Places.{are_by_slot}

-- conditions and terms fit, preconditions, variables and sets come by their slots, and numbers of 32 bits name all
-- variables and sets
pub record ShownFits (plan : Plan) : Type 0 where
  pub terms : TermsFit plan
  pub guards : are_by_slot plan plan.guards ≡ true
  pub vars : length plan.vars < 2 ^ 32
  pub sets : length plan.sets < 2 ^ 32
  pub vars_by_slot : stands_by (λ x. x.slot) plan.vars ≡ true
  pub sets_by_slot : stands_by (λ x. x.slot) plan.sets ≡ true

-- a valid plan's do
abbrev pub ValidPlansShow : Type 0
ValidPlansShow = (plan : Plan) → IsValid plan → ShownFits plan
