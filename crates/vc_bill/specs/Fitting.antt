-- What the calls take for granted of a plan.
use Rattle.std.specs.Prelude.{◌≡◌, ◌<◌, ◌≤◌, ◌^◌, Bool, true, nat_le, List, length}
use Rattle.vc_plan.specs.declared.plans.Line.{Line}
use Rattle.vc_plan.specs.declared.plans.Plan.{Plan}
use Rattle.vc_plan.specs.Orders.{are_in_order}
use Rattle.vc_plan.specs.Valid.{IsValid}
use Rattle.vc_plan_values.specs.Computing.{TermsFit}

abbrev pub lines_by_slot : List Line → Bool
lines_by_slot lines = are_in_order (λ a b. nat_le a.slot b.slot) lines

-- conditions and terms fit, lines come by their slots, numbers of 32 bits name lines and operations, and slots are few
pub record BillFits (plan : Plan) : Type 0 where
  pub terms : TermsFit plan
  pub ordered : lines_by_slot plan.lines ≡ true
  pub lines : length plan.lines < 2 ^ 32
  pub operations : length plan.operations < 2 ^ 32
  pub slots : length plan.slots ≤ 40

-- a valid plan's do
abbrev pub ValidPlansBill : Type 0
ValidPlansBill = (plan : Plan) → IsValid plan → BillFits plan
