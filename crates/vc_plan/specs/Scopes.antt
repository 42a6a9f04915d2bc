-- Whose variables and sets the dependencies of a slot read: its own, its parent's and the root's.
use Rattle.std.specs.Prelude.{ℕ, Bool, true, false, ◌&&◌, ◌==◌, List, [], ◌∷◌, ◌++◌, slice_get, Option, None, Some}
use Rattle.std.specs.List.{list_all}
use Rattle.vc_plan.specs.declared.conditions.Condition.{Condition}
use Rattle.vc_plan.specs.declared.conditions.Condition.TheVariants.{Always, Compared, IsIn, Specified, Holds, Filled}
use Rattle.vc_plan.specs.declared.conditions.Condition.TheVariants.{Not', And', Or'}
use Rattle.vc_plan.specs.declared.plans.Guard.{Guard}
use Rattle.vc_plan.specs.declared.plans.Line as bill
use Rattle.vc_plan.specs.declared.plans.Operation.{Operation}
use Rattle.vc_plan.specs.declared.plans.Plan.{Plan}
use Rattle.vc_plan.specs.declared.plans.Requirement.{Requirement}
use Rattle.vc_plan.specs.declared.plans.Selection.{Selection}
use Rattle.vc_plan.specs.declared.procedures.Action.{Action}
use Rattle.vc_plan.specs.declared.procedures.Action.TheVariants.{Assign, SetDefault, DeleteDefault, LookUp}
use Rattle.vc_plan.specs.declared.procedures.Procedure.{Procedure}
use Rattle.vc_plan.specs.declared.procedures.Statement.{Statement}
use Rattle.vc_plan.specs.declared.rules.Kind.{Kind}
use Rattle.vc_plan.specs.declared.rules.Kind.TheVariants.{Among, Compare, Equate, ByTable, Never, Last, Line}
use Rattle.vc_plan.specs.declared.rules.Rule.{Rule}
use Rattle.vc_plan.specs.declared.terms.Term.{Term}
use Rattle.vc_plan.specs.declared.terms.Term.TheVariants.{Literal, Read, PartSum, PartCount, Applied', Joined'}
use Rattle.vc_plan.specs.Reads.{vars_in, vars_read}
use Rattle.vc_plan.specs.RuleShapes.{is_among, is_at}
use Rattle.vc_plan.specs.Seen.{parent_in}
use Rattle.vc_plan.specs.Showing.{slot_of_named, slot_of_set}

-- the sets that a condition reads, and the slots over whose parts a term and a condition sum
abbrev pub sets_read : Condition → List ℕ
sets_read Always = []
sets_read (Compared r a b) = []
sets_read (IsIn v pieces) = []
sets_read (Specified v) = []
sets_read (Holds set text) = set ∷ []
sets_read (Filled set) = set ∷ []
sets_read (Not' p c) = sets_read c
sets_read (And' p c q d) = sets_read c ++ sets_read d
sets_read (Or' p c q d) = sets_read c ++ sets_read d

abbrev pub owners_in : Term → List ℕ
owners_in (Literal a) = []
owners_in (Read v) = []
owners_in (PartSum slot characteristic) = slot ∷ []
owners_in (PartCount slot) = slot ∷ []
owners_in (Applied' function p a) = owners_in a
owners_in (Joined' operator p a q b) = owners_in a ++ owners_in b

abbrev pub owners_read : Condition → List ℕ
owners_read Always = []
owners_read (Compared r a b) = owners_in a ++ owners_in b
owners_read (IsIn v pieces) = []
owners_read (Specified v) = []
owners_read (Holds set text) = []
owners_read (Filled set) = []
owners_read (Not' p c) = owners_read c
owners_read (And' p c q d) = owners_read c ++ owners_read d
owners_read (Or' p c q d) = owners_read c ++ owners_read d

-- the slots that can be named at a slot; a line is of its owner, and names that and the root alone
abbrev pub with_parent : Option ℕ → List ℕ → List ℕ
with_parent None slots = slots
with_parent (Some p) slots = p ∷ slots

abbrev pub line_scope : ℕ → List ℕ
line_scope i = i ∷ 0 ∷ []

abbrev pub scope : Plan → ℕ → List ℕ
scope plan i = with_parent (parent_in (slice_get plan.slots i)) (line_scope i)

abbrev pub scope_if : (ℕ → List ℕ) → Option ℕ → List ℕ
scope_if scope None = []
scope_if scope (Some i) = scope i

-- whether a condition, and whether a term, reads variables and sets of these slots alone
abbrev pub is_set_at : Plan → List ℕ → ℕ → Bool
is_set_at plan slots s = is_among slots (slot_of_set (slice_get plan.sets s))

abbrev pub asks_within : Plan → List ℕ → Option Condition → Bool
asks_within plan slots None = false
asks_within plan slots (Some c) = list_all (is_at plan slots) (vars_read c)
    && list_all (is_set_at plan slots) (sets_read c)

abbrev pub means_within : Plan → List ℕ → Option Term → Bool
means_within plan slots None = false
means_within plan slots (Some term) = list_all (is_at plan slots) (vars_in term)

-- whether sums are over the slot's own parts
abbrev pub asks_own_parts : ℕ → Option Condition → Bool
asks_own_parts i None = false
asks_own_parts i (Some c) = list_all (λ j. i == j) (owners_read c)

abbrev pub means_own_parts : ℕ → Option Term → Bool
means_own_parts i None = false
means_own_parts i (Some term) = list_all (λ j. i == j) (owners_in term)

-- a procedure's statements read what can be named at its slot, and sum over its own parts
abbrev pub term_own : Plan → ℕ → ℕ → Bool
term_own plan i term = means_within plan (scope plan i) (slice_get plan.terms term)
    && means_own_parts i (slice_get plan.terms term)

abbrev pub action_own : Plan → ℕ → Action → Bool
action_own plan i (Assign v term) = term_own plan i term
action_own plan i (SetDefault v term) = term_own plan i term
action_own plan i (DeleteDefault v term) = term_own plan i term
action_own plan i (LookUp table keys filled) = list_all (λ key. term_own plan i key.term) keys

abbrev pub statement_own : Plan → ℕ → Statement → Bool
statement_own plan i statement =
    (asks_within plan (scope plan i) (slice_get plan.conditions statement.condition)
    && asks_own_parts i (slice_get plan.conditions statement.condition))
    && action_own plan i statement.action

abbrev pub reads_own : Plan → Procedure → Bool
reads_own plan procedure = list_all (statement_own plan procedure.slot) procedure.statements

-- preconditions, selection conditions, quantities and times likewise
abbrev pub guard_own : Plan → Guard → Bool
guard_own plan guard =
    asks_within plan (scope_if (scope plan) (slot_of_named plan guard.at)) (slice_get plan.conditions guard.condition)

abbrev pub requirement_own : Plan → Requirement → Bool
requirement_own plan requirement =
    asks_within plan (scope_if (scope plan) (slot_of_named plan requirement.at))
    (slice_get plan.conditions requirement.selection.condition)

abbrev pub selection_within : Plan → List ℕ → Selection → Bool
selection_within plan slots selection = asks_within plan slots (slice_get plan.conditions selection.condition)

abbrev pub operation_own : Plan → Operation → Bool
operation_own plan operation =
    means_within plan (scope plan operation.slot) (slice_get plan.terms operation.time)
    && list_all (selection_within plan (scope plan operation.slot)) operation.selections

abbrev pub line_own : Plan → bill.Line → Bool
line_own plan line =
    means_within plan (line_scope line.slot) (slice_get plan.terms line.quantity)
    && list_all (selection_within plan (line_scope line.slot)) line.selections

-- and so does what brings a component
abbrev pub kind_own : Plan → Option Condition → Kind → Bool
kind_own plan c (Among w restriction) = true
kind_own plan c (Compare r a b) = true
kind_own plan c (Equate a b) = true
kind_own plan c (ByTable table columns) = true
kind_own plan c Never = true
kind_own plan c (Last v) = true
kind_own plan c (Line i) = asks_within plan (scope_if line_scope (parent_in (slice_get plan.slots i))) c

abbrev pub rule_own : Plan → Rule → Bool
rule_own plan rule = kind_own plan (slice_get plan.conditions rule.condition) rule.kind
