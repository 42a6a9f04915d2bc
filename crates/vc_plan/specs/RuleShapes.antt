-- What a rule may touch, and which rules there are.
use Rattle.std.specs.Prelude.{ℕ, zero, suc, Bool, true, false, not, ◌&&◌, ◌||◌, ◌==◌, nat_lt, nat_le, is_none, is_some}
use Rattle.std.specs.Prelude.{if◌then◌else◌, List, [], ◌∷◌, ◌++◌, length, flat_map, slice_get, Option, None, Some}
use Rattle.std.specs.List.{filter, list_all, list_any}
use Rattle.vc_plan.specs.declared.conditions.Condition.{Condition}
use Rattle.vc_plan.specs.declared.conditions.Condition.TheVariants.{Always, Compared, IsIn, Specified, Holds, Filled}
use Rattle.vc_plan.specs.declared.conditions.Condition.TheVariants.{Not', And', Or'}
use Rattle.vc_plan.specs.declared.plans.Plan.{Plan}
use Rattle.vc_plan.specs.declared.rules.Kind.{Kind}
use Rattle.vc_plan.specs.declared.rules.Kind.TheVariants.{Among, Compare, Equate, ByTable, Never, Last, Line}
use Rattle.vc_plan.specs.declared.rules.Operand.{Operand}
use Rattle.vc_plan.specs.declared.rules.Operand.TheVariants.{Constant, Variable}
use Rattle.vc_plan.specs.declared.rules.Rule.{Rule}
use Rattle.vc_plan.specs.declared.terms.Term.{Term}
use Rattle.vc_plan.specs.declared.terms.Term.TheVariants.{Literal, Read, PartSum, PartCount, Applied', Joined'}
use Rattle.vc_plan.specs.Reads.{vars_of_term, vars_of_condition}
use Rattle.vc_plan.specs.Restrictions.{lone_in}
use Rattle.vc_plan.specs.Seen.{slot_in}
use Rattle.vc_plan.specs.Orders.{are_apart, same_numbers, same_number_if}

-- the variables that a rule's kind reads
abbrev pub operand_vars : Operand → List ℕ
operand_vars (Constant a) = []
operand_vars (Variable v) = v ∷ []

abbrev pub kind_vars : Plan → Kind → List ℕ
kind_vars plan (Among v restriction) = v ∷ []
kind_vars plan (Compare r a b) = vars_of_term (slice_get plan.terms a) ++ vars_of_term (slice_get plan.terms b)
kind_vars plan (Equate a b) = vars_of_term (slice_get plan.terms a) ++ vars_of_term (slice_get plan.terms b)
kind_vars plan (ByTable table columns) = flat_map (λ binding. operand_vars binding.operand) columns
kind_vars plan Never = []
kind_vars plan (Last v) = v ∷ []
kind_vars plan (Line i) = []

-- all variables that a rule reads
abbrev pub rule_vars : Plan → Rule → List ℕ
rule_vars plan rule = vars_of_condition (slice_get plan.conditions rule.condition) ++ kind_vars plan rule.kind

-- whether a rule is one of a constraint
abbrev pub is_of_constraint : Kind → Bool
is_of_constraint (Among v restriction) = true
is_of_constraint (Compare r a b) = true
is_of_constraint (Equate a b) = true
is_of_constraint (ByTable table columns) = true
is_of_constraint Never = true
is_of_constraint (Last v) = false
is_of_constraint (Line i) = false

-- whether the variable's slot is among these
abbrev pub is_among : List ℕ → Option ℕ → Bool
is_among slots None = false
is_among slots (Some i) = list_any (λ j. j == i) slots

abbrev pub is_at : Plan → List ℕ → ℕ → Bool
is_at plan slots v = is_among slots (slot_in (slice_get plan.vars v))

-- a constraint's rule stands at one slot to four, each once, and reads and infers variables of these slots alone;
-- another rule
-- stands at none and infers nothing
abbrev pub stays_at_its_slots : Plan → Rule → Bool
stays_at_its_slots plan rule =
    if is_of_constraint rule.kind
    then (((nat_lt 0 (length rule.slots) && nat_le (length rule.slots) 4) && are_apart (λ i j. i == j) rule.slots)
    && (list_all (is_at plan rule.slots) (rule_vars plan rule) && list_all (is_at plan rule.slots) rule.inferred))
    && (is_some rule.dependency && are_apart (λ v w. v == w) rule.inferred)
    else (length rule.slots == 0) && (length rule.inferred == 0)

-- whether a rule is the Last of the variable, and whether it is a Line of the slot
abbrev pub is_last_of : ℕ → Kind → Bool
is_last_of v (Among w restriction) = false
is_last_of v (Compare r a b) = false
is_last_of v (Equate a b) = false
is_last_of v (ByTable table columns) = false
is_last_of v Never = false
is_last_of v (Last w) = v == w
is_last_of v (Line i) = false

abbrev pub is_line_of : ℕ → Kind → Bool
is_line_of i (Among w restriction) = false
is_line_of i (Compare r a b) = false
is_line_of i (Equate a b) = false
is_line_of i (ByTable table columns) = false
is_line_of i Never = false
is_line_of i (Last v) = false
is_line_of i (Line j) = i == j

-- a variable has one Last; a slot but the root has a Line, and the root has none
abbrev pub has_one_last : Plan → ℕ → Bool
has_one_last plan v = length (filter (λ rule. is_last_of v rule.kind) plan.rules) == 1

abbrev pub has_its_lines : Plan → ℕ → Bool
has_its_lines plan zero = not (list_any (λ rule. is_line_of 0 rule.kind) plan.rules)
has_its_lines plan (suc i) = list_any (λ rule. is_line_of (suc i) rule.kind) plan.rules

-- two rules of one constraint have one restriction and tuple; two Lines of one slot have one number
abbrev pub are_one_rule : Rule → Rule → Bool
are_one_rule a b =
    (is_of_constraint a.kind && is_of_constraint b.kind)
    && (same_number_if a.dependency b.dependency && ((a.number == b.number) && same_numbers a.slots b.slots))

abbrev pub line_slot : Kind → Option ℕ
line_slot (Among w restriction) = None
line_slot (Compare r a b) = None
line_slot (Equate a b) = None
line_slot (ByTable table columns) = None
line_slot Never = None
line_slot (Last v) = None
line_slot (Line i) = Some i

abbrev pub are_one_line : Rule → Rule → Bool
are_one_line a b = is_some (line_slot a.kind)
    && (same_number_if (line_slot a.kind) (line_slot b.kind) && (a.number == b.number))

-- a rule has a number from 1 exactly where it is of a constraint or a selection condition
abbrev pub is_numbered : Rule → Bool
is_numbered rule = if is_some rule.dependency then nat_lt 0 rule.number else (rule.number == 0)

-- whether a condition asks nothing
abbrev pub asks_nothing : Option Condition → Bool
asks_nothing None = false
asks_nothing (Some Always) = true
asks_nothing (Some (Compared r a b)) = false
asks_nothing (Some (IsIn v pieces)) = false
asks_nothing (Some (Specified v)) = false
asks_nothing (Some (Holds set text)) = false
asks_nothing (Some (Filled set)) = false
asks_nothing (Some (Not' p c)) = false
asks_nothing (Some (And' p c q d)) = false
asks_nothing (Some (Or' p c q d)) = false

-- whether a rule is the Last of some variable
abbrev pub is_last : Kind → Bool
is_last (Among w restriction) = false
is_last (Compare r a b) = false
is_last (Equate a b) = false
is_last (ByTable table columns) = false
is_last Never = false
is_last (Last w) = true
is_last (Line i) = false

-- a rule that is of no constraint and no selection condition asks nothing; a Last is one
abbrev pub asks_by_right : Plan → Rule → Bool
asks_by_right plan rule =
    if is_some rule.dependency then not (is_last rule.kind) else asks_nothing (slice_get plan.conditions rule.condition)

-- two Lines of one slot of which one is of no selection condition
abbrev pub are_with_and_without : Rule → Rule → Bool
are_with_and_without a b =
    (is_some (line_slot a.kind) && same_number_if (line_slot a.kind) (line_slot b.kind))
    && (is_none a.dependency || is_none b.dependency)

-- one variable against a literal is no comparison and no equation
abbrev pub is_literal : Option Term → Bool
is_literal None = false
is_literal (Some (Literal a)) = true
is_literal (Some (Read v)) = false
is_literal (Some (PartSum slot characteristic)) = false
is_literal (Some (PartCount slot)) = false
is_literal (Some (Applied' function p a)) = false
is_literal (Some (Joined' operator p a q b)) = false

abbrev pub are_lone_and_literal : Option Term → Option Term → Bool
are_lone_and_literal a b = (is_some (lone_in a) && is_literal b) || (is_literal a && is_some (lone_in b))

abbrev pub is_not_among : Plan → Kind → Bool
is_not_among plan (Among v restriction) = true
is_not_among plan (Compare r a b) = not (are_lone_and_literal (slice_get plan.terms a) (slice_get plan.terms b))
is_not_among plan (Equate a b) = not (are_lone_and_literal (slice_get plan.terms a) (slice_get plan.terms b))
is_not_among plan (ByTable table columns) = true
is_not_among plan Never = true
is_not_among plan (Last v) = true
is_not_among plan (Line i) = true

-- a table call names no column twice, and no column at all is none
abbrev pub columns_once : Kind → Bool
columns_once (Among w restriction) = true
columns_once (Compare r a b) = true
columns_once (Equate a b) = true
columns_once (ByTable table columns) = nat_lt 0 (length columns) && are_apart (λ a b. a.column == b.column) columns
columns_once Never = true
columns_once (Last v) = true
columns_once (Line i) = true
