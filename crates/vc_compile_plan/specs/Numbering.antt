-- Conditions and terms as lists, and what has them by their numbers: those of rules, then of preconditions,
-- requirements,
-- lines, operations and procedures. Condition 0 asks nothing, and stands for each that isn't there.
use Rattle.std.specs.Prelude.{ℕ, suc, ◌+◌, List, [], ◌∷◌, ◌++◌, length, map, flat_map, Option, None, Some}
use Rattle.vc_plan.specs.declared.plans.Guard.{Guard}
use Rattle.vc_plan.specs.declared.plans.Line.{Line}
use Rattle.vc_plan.specs.declared.plans.Operation.{Operation}
use Rattle.vc_plan.specs.declared.plans.Requirement.{Requirement}
use Rattle.vc_plan.specs.declared.plans.Selection.{Selection}
use Rattle.vc_plan.specs.declared.procedures.Action as doing
use Rattle.vc_plan.specs.declared.procedures.Action.TheVariants as actions
use Rattle.vc_plan.specs.declared.procedures.KeyTerm.{KeyTerm}
use Rattle.vc_plan.specs.declared.procedures.Procedure.{Procedure}
use Rattle.vc_plan.specs.declared.procedures.Statement.{Statement}
use Rattle.vc_plan.specs.declared.rules.Kind.{Kind}
use Rattle.vc_plan.specs.declared.rules.Kind.TheVariants as kinds
use Rattle.vc_plan.specs.declared.rules.Rule.{Rule}
use Rattle.vc_compile_plan.specs.Layouts.{Layout}
use Rattle.vc_compile_plan.specs.Procedures.{Action, assign, set_default, delete_default, look_up, KeyDraft}
use Rattle.vc_compile_plan.specs.Procedures.{StatementDraft, ProcedureDraft, procedure_drafts}
use Rattle.vc_compile_plan.specs.Rules.{Demand, among, compare, equate, by_table, never, last, line, Draft, rule_drafts}
use Rattle.vc_compile_plan.specs.Shown.{Choice, GuardDraft, RequirementDraft, ItemDraft, guard_drafts}
use Rattle.vc_compile_plan.specs.Shown.{requirement_drafts, line_drafts, operation_drafts}
use Rattle.vc_compile_plan.specs.Trees.{Term, Condition, Always}

-- the conditions and the terms that a thing brings
pub record Brings (D : Type 0) : Type 0 where
  pub conditions : D → List Condition
  pub terms : D → List Term

-- things with the numbers of their conditions and terms; the next condition and the next term have these numbers
abbrev pub numbered : {D X : Type 0} → Brings D → (ℕ → ℕ → D → X) → ℕ → ℕ → List D → List X
numbered brings make c t [] = []
numbered brings make c t (draft ∷ drafts) =
    make c t draft ∷ numbered brings make (c + length (brings.conditions draft)) (t + length (brings.terms draft))
    drafts

-- a condition that may be missing, and its number
abbrev pub if_asked : Option Condition → List Condition
if_asked None = []
if_asked (Some condition) = condition ∷ []

abbrev pub number_for : ℕ → Option Condition → ℕ
number_for c None = 0
number_for c (Some condition) = c

-- rules
abbrev pub demand_terms : Demand → List Term
demand_terms (among v restriction) = []
demand_terms (compare relation left right) = left ∷ right ∷ []
demand_terms (equate left right) = left ∷ right ∷ []
demand_terms (by_table table columns) = []
demand_terms never = []
demand_terms (last v) = []
demand_terms (line i) = []

abbrev pub rule_brings : Brings Draft
rule_brings = record { conditions = λ draft. if_asked draft.condition; terms = λ draft. demand_terms draft.demand }

abbrev pub kind_from : ℕ → Demand → Kind
kind_from t (among v restriction) = kinds.Among v restriction
kind_from t (compare relation left right) = kinds.Compare relation t (suc t)
kind_from t (equate left right) = kinds.Equate t (suc t)
kind_from t (by_table table columns) = kinds.ByTable table columns
kind_from t never = kinds.Never
kind_from t (last v) = kinds.Last v
kind_from t (line i) = kinds.Line i

abbrev pub rule_from : ℕ → ℕ → Draft → Rule
rule_from c t draft = record {
  dependency = draft.dependency;
  number = draft.number;
  slots = draft.slots;
  condition = number_for c draft.condition;
  inferred = draft.inferred;
  kind = kind_from t draft.demand;
}

-- preconditions and requirements
abbrev pub guard_brings : Brings GuardDraft
guard_brings = record { conditions = λ draft. draft.choice.condition ∷ []; terms = λ draft. [] }

abbrev pub guard_from : ℕ → ℕ → GuardDraft → Guard
guard_from c t draft =
    record { at = draft.at; value = draft.value; dependency = draft.choice.dependency; condition = c }

abbrev pub requirement_brings : Brings RequirementDraft
requirement_brings = record { conditions = λ draft. draft.choice.condition ∷ []; terms = λ draft. [] }

abbrev pub requirement_from : ℕ → ℕ → RequirementDraft → Requirement
requirement_from c t draft =
    record { at = draft.at; selection = record { dependency = draft.choice.dependency; condition = c } }

-- lines and operations
abbrev pub item_brings : Brings ItemDraft
item_brings = record {
  conditions = λ draft. map (λ choice. choice.condition) draft.choices;
  terms = λ draft. draft.term
      ∷ [];
}

abbrev pub selections_from : ℕ → List Choice → List Selection
selections_from c [] = []
selections_from c (choice ∷ choices) = record { dependency = choice.dependency; condition = c }
    ∷ selections_from (suc c) choices

abbrev pub line_from : ℕ → ℕ → ItemDraft → Line
line_from c t draft = record {
  slot = draft.slot;
  item = draft.number;
  material = draft.word;
  unit = draft.unit;
  quantity = t;
  selections = selections_from c draft.choices;
}

abbrev pub operation_from : ℕ → ℕ → ItemDraft → Operation
operation_from c t draft = record {
  slot = draft.slot;
  number = draft.number;
  name = draft.word;
  unit = draft.unit;
  time = t;
  selections = selections_from c draft.choices;
}

-- procedures
abbrev pub action_terms : Action → List Term
action_terms (assign v term) = term ∷ []
action_terms (set_default v term) = term ∷ []
action_terms (delete_default v term) = term ∷ []
action_terms (look_up table keys filled) = map (λ key. key.term) keys

abbrev pub statement_brings : Brings StatementDraft
statement_brings = record { conditions = λ draft. if_asked draft.condition; terms = λ draft. action_terms draft.action }

abbrev pub keys_from : ℕ → List KeyDraft → List KeyTerm
keys_from t [] = []
keys_from t (key ∷ keys) = record { column = key.column; term = t } ∷ keys_from (suc t) keys

abbrev pub action_from : ℕ → Action → doing.Action
action_from t (assign v term) = actions.Assign v t
action_from t (set_default v term) = actions.SetDefault v t
action_from t (delete_default v term) = actions.DeleteDefault v t
action_from t (look_up table keys filled) = actions.LookUp table (keys_from t keys) filled

abbrev pub statement_from : ℕ → ℕ → StatementDraft → Statement
statement_from c t draft = record { action = action_from t draft.action; condition = number_for c draft.condition }

abbrev pub procedure_brings : Brings ProcedureDraft
procedure_brings = record {
  conditions = λ draft. flat_map statement_brings.conditions draft.statements;
  terms = λ draft. flat_map statement_brings.terms draft.statements;
}

abbrev pub procedure_from : ℕ → ℕ → ProcedureDraft → Procedure
procedure_from c t draft = record {
  slot = draft.slot;
  dependency = draft.dependency;
  trigger = draft.trigger;
  statements = numbered statement_brings statement_from c t draft.statements;
}

-- all of them
pub record Drafts : Type 0 where
  pub rules : List Draft
  pub guards : List GuardDraft
  pub requirements : List RequirementDraft
  pub lines : List ItemDraft
  pub operations : List ItemDraft
  pub procedures : List ProcedureDraft

abbrev pub drafts_of : Layout → Drafts
drafts_of layout = record {
  rules = rule_drafts layout;
  guards = guard_drafts layout;
  requirements = requirement_drafts layout;
  lines = line_drafts layout;
  operations = operation_drafts layout;
  procedures = procedure_drafts layout;
}

-- the conditions, and the terms, of each kind of them
abbrev pub brought_conditions : {D : Type 0} → Brings D → List D → List Condition
brought_conditions brings drafts = flat_map brings.conditions drafts

abbrev pub brought_terms : {D : Type 0} → Brings D → List D → List Term
brought_terms brings drafts = flat_map brings.terms drafts

abbrev pub conditions_of : Drafts → List Condition
conditions_of drafts =
    Always ∷ brought_conditions rule_brings drafts.rules
    ++ (brought_conditions guard_brings drafts.guards
    ++ (brought_conditions requirement_brings drafts.requirements
    ++ (brought_conditions item_brings drafts.lines
    ++ (brought_conditions item_brings drafts.operations ++ brought_conditions procedure_brings drafts.procedures))))

abbrev pub terms_of : Drafts → List Term
terms_of drafts =
    brought_terms rule_brings drafts.rules
    ++ (brought_terms item_brings drafts.lines
    ++ (brought_terms item_brings drafts.operations ++ brought_terms procedure_brings drafts.procedures))

-- the number of the first condition of each kind
abbrev pub guards_begin : Drafts → ℕ
guards_begin drafts = suc (length (brought_conditions rule_brings drafts.rules))

abbrev pub requirements_begin : Drafts → ℕ
requirements_begin drafts = guards_begin drafts + length (brought_conditions guard_brings drafts.guards)

abbrev pub lines_begin : Drafts → ℕ
lines_begin drafts = requirements_begin drafts + length (brought_conditions requirement_brings drafts.requirements)

abbrev pub operations_begin : Drafts → ℕ
operations_begin drafts = lines_begin drafts + length (brought_conditions item_brings drafts.lines)

abbrev pub procedures_begin : Drafts → ℕ
procedures_begin drafts = operations_begin drafts + length (brought_conditions item_brings drafts.operations)

-- and that of the first term
abbrev pub line_terms_begin : Drafts → ℕ
line_terms_begin drafts = length (brought_terms rule_brings drafts.rules)

abbrev pub operation_terms_begin : Drafts → ℕ
operation_terms_begin drafts = line_terms_begin drafts + length (brought_terms item_brings drafts.lines)

abbrev pub procedure_terms_begin : Drafts → ℕ
procedure_terms_begin drafts = operation_terms_begin drafts + length (brought_terms item_brings drafts.operations)

-- the numbered things
abbrev pub rules_of : Drafts → List Rule
rules_of drafts = numbered rule_brings rule_from 1 0 drafts.rules

abbrev pub guards_of : Drafts → List Guard
guards_of drafts = numbered guard_brings guard_from (guards_begin drafts) 0 drafts.guards

abbrev pub requirements_of : Drafts → List Requirement
requirements_of drafts = numbered requirement_brings requirement_from (requirements_begin drafts) 0 drafts.requirements

abbrev pub lines_of : Drafts → List Line
lines_of drafts = numbered item_brings line_from (lines_begin drafts) (line_terms_begin drafts) drafts.lines

abbrev pub operations_of : Drafts → List Operation
operations_of drafts =
    numbered item_brings operation_from (operations_begin drafts) (operation_terms_begin drafts) drafts.operations

abbrev pub procedures_of : Drafts → List Procedure
procedures_of drafts =
    numbered procedure_brings procedure_from (procedures_begin drafts) (procedure_terms_begin drafts) drafts.procedures
