-- The order and the count of a plan's lines and operations.
use Rattle.std.specs.Prelude.{◌≡◌, true, nat_le, length}
use Rattle.vc_plan.specs.Alike.{lines_at, operations_at}
use Rattle.vc_plan.specs.Orders.{are_in_order}
use Rattle.vc_plan.specs.Valid.{each_slot, is_line_before, is_operation_before}
use Rattle.vc_plan.specs.declared.plans.Plan.{Plan}

pub record HasOrders (plan : Plan) : Type 0 where
  pub lines_in_order : are_in_order is_line_before plan.lines ≡ true
  pub operations_in_order : are_in_order is_operation_before plan.operations ≡ true

pub record HasFewLines (plan : Plan) : Type 0 where
  pub line_limit : each_slot plan (λ i. nat_le (length (lines_at plan i)) 1_000) ≡ true
  pub operation_limit : each_slot plan (λ i. nat_le (length (operations_at plan i)) 1_000) ≡ true
