-- The lines and operations of a plan.
use Rattle.std.specs.Prelude.{◌≡◌, true, ◌&&◌}
use Rattle.std.specs.List.{list_all}
use Rattle.vc_plan.specs.BillRanges.{line_there, operation_there}
use Rattle.vc_plan.specs.Spelling.{is_material, is_upper_name}
use Rattle.vc_plan.specs.Valid.{is_four_digits}
use Rattle.vc_plan.specs.declared.plans.Plan.{Plan}

pub record HasBills (plan : Plan) : Type 0 where
  pub lines_there : list_all (line_there plan) plan.lines ≡ true
  pub operations_there : list_all (operation_there plan) plan.operations ≡ true
  pub line_words : list_all (λ line. is_material line.material && is_material line.unit) plan.lines ≡ true
  pub operation_words : list_all (λ operation. is_upper_name operation.name && is_material operation.unit)
      plan.operations ≡ true
  pub line_items : list_all (λ line. is_four_digits line.item) plan.lines ≡ true
  pub operation_numbers : list_all (λ operation. is_four_digits operation.number) plan.operations ≡ true
