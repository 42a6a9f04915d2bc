-- The sorts of a plan's terms: texts meet texts, numbers meet numbers, and what parts are summed over is a number.
use Rattle.std.specs.Prelude.{◌≡◌, true}
use Rattle.std.specs.List.{list_all}
use Rattle.vc_plan.specs.PartSums.{condition_sums_numbers, sums_numbers}
use Rattle.vc_plan.specs.Typing.{condition_typed, kind_typed, statement_typed}
use Rattle.vc_plan.specs.Valid.{each_statement}
use Rattle.vc_plan.specs.declared.plans.Plan.{Plan}

pub record HasTypes (plan : Plan) : Type 0 where
  pub conditions_typed : list_all (condition_typed plan) plan.conditions ≡ true
  pub rules_typed : list_all (λ rule. kind_typed plan rule.kind) plan.rules ≡ true
  pub statements_typed : each_statement plan (statement_typed plan) ≡ true

pub record HasSums (plan : Plan) : Type 0 where
  pub sums_asked : list_all (condition_sums_numbers plan) plan.conditions ≡ true
  pub sums_meant : list_all (sums_numbers plan) plan.terms ≡ true
