-- That procedures name things that the plan has.
use Rattle.std.specs.Prelude.{ℕ, Bool, true, ◌&&◌, nat_lt}
use Rattle.std.specs.List.{list_all}
use Rattle.vc_plan.specs.declared.plans.Plan.{Plan}
use Rattle.vc_plan.specs.declared.procedures.Action.{Action}
use Rattle.vc_plan.specs.declared.procedures.Action.TheVariants.{Assign, SetDefault, DeleteDefault, LookUp}
use Rattle.vc_plan.specs.declared.procedures.FilledColumn.{FilledColumn}
use Rattle.vc_plan.specs.declared.procedures.KeyTerm.{KeyTerm}
use Rattle.vc_plan.specs.declared.procedures.Procedure.{Procedure}
use Rattle.vc_plan.specs.declared.procedures.Statement.{Statement}
use Rattle.vc_plan.specs.declared.procedures.Trigger.{Trigger}
use Rattle.vc_plan.specs.declared.procedures.Trigger.TheVariants.{Anyway, ValueIn, TextIn}
use Rattle.vc_plan.specs.Ranges.{is_of, piece_there}
use Rattle.vc_plan.specs.RuleRanges.{width_of}

abbrev pub key_there : Plan → ℕ → KeyTerm → Bool
key_there plan table key = nat_lt key.column (width_of plan table) && is_of plan.terms key.term

abbrev pub filled_there : Plan → ℕ → FilledColumn → Bool
filled_there plan table filled = nat_lt filled.column (width_of plan table) && is_of plan.vars filled.var

abbrev pub action_there : Plan → Action → Bool
action_there plan (Assign v term) = is_of plan.vars v && is_of plan.terms term
action_there plan (SetDefault v term) = is_of plan.vars v && is_of plan.terms term
action_there plan (DeleteDefault v term) = is_of plan.vars v && is_of plan.terms term
action_there plan (LookUp table keys filled) =
    is_of plan.tables table && (list_all (key_there plan table) keys && list_all (filled_there plan table) filled)

abbrev pub statement_there : Plan → Statement → Bool
statement_there plan statement = is_of plan.conditions statement.condition && action_there plan statement.action

abbrev pub trigger_there : Plan → Trigger → Bool
trigger_there plan Anyway = true
trigger_there plan (ValueIn v piece) = is_of plan.vars v && piece_there plan piece
trigger_there plan (TextIn set text) = is_of plan.sets set && is_of plan.texts text

abbrev pub procedure_there : Plan → Procedure → Bool
procedure_there plan procedure =
    (is_of plan.slots procedure.slot && is_of plan.dependencies procedure.dependency)
    && (trigger_there plan procedure.trigger && list_all (statement_there plan) procedure.statements)
