-- What conditions, terms and statements of a plan read and write: variables and sets of slots that can be named there.
use Rattle.std.specs.Prelude.{◌≡◌, true, None}
use Rattle.std.specs.List.{list_all}
use Rattle.vc_model_parts.specs.declared.parts.Model.{Model}
use Rattle.vc_plan.specs.LookUps.{writes_own}
use Rattle.vc_plan.specs.Monotone.{is_for_nets}
use Rattle.vc_plan.specs.RuleShapes.{stays_at_its_slots}
use Rattle.vc_plan.specs.Scopes.{guard_own, line_own, operation_own, reads_own, requirement_own, rule_own}
use Rattle.vc_plan.specs.Valid.{asks}
use Rattle.vc_plan.specs.declared.plans.Plan.{Plan}
use Rattle.vc_compile_plan.specs.Layouts.{layout_of}
use Rattle.vc_compile_plan.specs.Refusals.{first_of, type_faults}

-- no fault of typing is told of the model
abbrev pub IsTyped : Model → Type 0
IsTyped model = first_of (type_faults (layout_of model)) ≡ None

pub record HasScopes (plan : Plan) : Type 0 where
  pub procedure_reads : list_all (reads_own plan) plan.procedures ≡ true
  pub guard_reads : list_all (guard_own plan) plan.guards ≡ true
  pub requirement_reads : list_all (requirement_own plan) plan.requirements ≡ true
  pub operation_reads : list_all (operation_own plan) plan.operations ≡ true
  pub line_reads : list_all (line_own plan) plan.lines ≡ true
  pub component_reads : list_all (rule_own plan) plan.rules ≡ true
  pub own_writes : list_all (writes_own plan) plan.procedures ≡ true

pub record HasOwnSlots (plan : Plan) : Type 0 where
  pub own_slots : list_all (stays_at_its_slots plan) plan.rules ≡ true

-- what nets ask is monotone
pub record HasNets (plan : Plan) : Type 0 where
  pub nets : list_all (λ rule. asks plan is_for_nets rule.condition) plan.rules ≡ true
