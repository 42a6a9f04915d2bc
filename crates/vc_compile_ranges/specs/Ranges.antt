-- That conditions, terms, rules and procedures of a plan name things that it has.
use Rattle.std.specs.Prelude.{◌≡◌, true}
use Rattle.std.specs.List.{list_all}
use Rattle.vc_plan.specs.ProcedureRanges.{procedure_there}
use Rattle.vc_plan.specs.Ranges.{condition_there, term_there}
use Rattle.vc_plan.specs.RuleRanges.{rule_there}
use Rattle.vc_plan.specs.declared.plans.Plan.{Plan}

pub record HasRanges (plan : Plan) : Type 0 where
  pub conditions_there : list_all (condition_there plan) plan.conditions ≡ true
  pub terms_there : list_all (term_there plan) plan.terms ≡ true
  pub rules_there : list_all (rule_there plan) plan.rules ≡ true
  pub procedures_there : list_all (procedure_there plan) plan.procedures ≡ true
