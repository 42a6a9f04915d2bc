-- The rules of a plan.
use Rattle.std.specs.Prelude.{◌≡◌, true}
use Rattle.std.specs.List.{list_all}
use Rattle.vc_plan.specs.Orders.{are_apart}
use Rattle.vc_plan.specs.RuleShapes.{are_one_line, are_one_rule, are_with_and_without, asks_by_right, has_its_lines}
use Rattle.vc_plan.specs.RuleShapes.{has_one_last, is_not_among, is_numbered}
use Rattle.vc_plan.specs.Valid.{each_slot, each_var}
use Rattle.vc_plan.specs.declared.plans.Plan.{Plan}

pub record HasRules (plan : Plan) : Type 0 where
  pub numbered : list_all is_numbered plan.rules ≡ true
  pub rules_once : are_apart are_one_rule plan.rules ≡ true
  pub lines_once : are_apart are_one_line plan.rules ≡ true
  pub lasts : each_var plan (has_one_last plan) ≡ true
  pub slot_lines : each_slot plan (has_its_lines plan) ≡ true
  pub lone_lines : are_apart are_with_and_without plan.rules ≡ true
  pub asked_by_right : list_all (asks_by_right plan) plan.rules ≡ true
  pub not_among : list_all (λ rule. is_not_among plan rule.kind) plan.rules ≡ true
