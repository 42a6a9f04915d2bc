-- Which slots and variables are among things.
use Rattle.std.proofs.Common.{◌≡◌, ℕ, Bool, true, false, ◌||◌, ◌==◌, List, [], ◌∷◌, ◌++◌, map, refl, ◌∙◌, ap}
use Rattle.std.specs.Prelude.{nat_eq, flat_map, slice_get}
use Rattle.std.specs.List.{list_any}
use Rattle.std.proofs.lemmas.List.Folds.{list_any-append}
use Rattle.vc_plan.specs.declared.plans.Plan.{Plan}
use Rattle.vc_plan.specs.declared.rules.Binding.{Binding}
use Rattle.vc_plan.specs.declared.rules.Operand.{Operand}
use Rattle.vc_plan.specs.declared.rules.Operand.TheVariants.{Constant, Variable}
use Rattle.vc_plan.specs.declared.rules.Rule.{Rule}
use Rattle.vc_plan.specs.Reads.{vars_of_condition}
use Rattle.vc_plan.specs.TableRows.{is_column_of, is_variable}
use Rattle.vc_plan_reasons.specs.Things.{has_thing, rule_reads, same_thing, slot_at, slots_of_kind, var_at}
use Rattle.vc_plan_reasons.specs.Things.{vars_of_column, vars_of_kind, vars_of_operand}

or_none : (b : Bool) → (b || false) ≡ b
or_none true = refl
or_none false = refl

pub alone : (n m : ℕ) → list_any (nat_eq n) (m ∷ []) ≡ (n == m)
alone n m = or_none (n == m)

pub in_two : (n : ℕ) (xs ys : List ℕ)
    → list_any (nat_eq n) (xs ++ ys) ≡ (list_any (nat_eq n) xs || list_any (nat_eq n) ys)
in_two n xs ys = list_any-append (nat_eq n) xs ys

operand_read : (n : ℕ) (operand : Operand) → list_any (nat_eq n) (vars_of_operand operand) ≡ is_variable n operand
operand_read n (Constant a) = refl
operand_read n (Variable w) = or_none (n == w)

pub columns_read : (n : ℕ) (columns : List Binding)
    → list_any (nat_eq n) (flat_map vars_of_column columns) ≡ list_any (is_column_of n) columns
columns_read n [] = refl
columns_read n (column ∷ columns) =
    list_any-append (nat_eq n) (vars_of_column column) (flat_map vars_of_column columns)
    ∙ (ap (λ b. b || list_any (nat_eq n) (flat_map vars_of_column columns)) (operand_read n column.operand)
    ∙ ap (λ b. is_column_of n column || b) (columns_read n columns))

pub ruleset parts = (alone, in_two, columns_read)

slots_in : (i : ℕ) (xs : List ℕ) → list_any (same_thing (slot_at i)) (map slot_at xs) ≡ list_any (nat_eq i) xs
slots_in i [] = refl
slots_in i (x ∷ xs) = ap (λ b. (i == x) || b) (slots_in i xs)

vars_in : (v : ℕ) (xs : List ℕ) → list_any (same_thing (var_at v)) (map var_at xs) ≡ list_any (nat_eq v) xs
vars_in v [] = refl
vars_in v (x ∷ xs) = ap (λ b. (v == x) || b) (vars_in v xs)

no_slots : (i : ℕ) (xs : List ℕ) → list_any (same_thing (slot_at i)) (map var_at xs) ≡ false
no_slots i [] = refl
no_slots i (x ∷ xs) = no_slots i xs

pub no_var : (v : ℕ) (xs : List ℕ) → has_thing (map slot_at xs) (var_at v) ≡ false
no_var v [] = refl
no_var v (x ∷ xs) = no_var v xs

pub slot_read : (i : ℕ) (xs : List ℕ) → has_thing (map slot_at xs) (slot_at i) ≡ list_any (nat_eq i) xs
slot_read i xs = slots_in i xs

pub rule_slot : (plan : Plan) (rule : Rule) (i : ℕ)
    → has_thing (rule_reads plan rule) (slot_at i)
    ≡ (list_any (nat_eq i) rule.slots || list_any (nat_eq i) (slots_of_kind plan rule.kind))
rule_slot plan rule i =
    list_any-append (same_thing (slot_at i)) (map slot_at (rule.slots ++ slots_of_kind plan rule.kind))
    (map var_at (vars_of_condition (slice_get plan.conditions rule.condition) ++ vars_of_kind plan rule.kind))
    ∙ (ap (λ b. list_any (same_thing (slot_at i)) (map slot_at (rule.slots ++ slots_of_kind plan rule.kind)) || b)
    (no_slots i (vars_of_condition (slice_get plan.conditions rule.condition) ++ vars_of_kind plan rule.kind))
    ∙ (or_none (list_any (same_thing (slot_at i)) (map slot_at (rule.slots ++ slots_of_kind plan rule.kind)))
    ∙ (slots_in i (rule.slots ++ slots_of_kind plan rule.kind)
    ∙ list_any-append (nat_eq i) rule.slots (slots_of_kind plan rule.kind))))

pub rule_var : (plan : Plan) (rule : Rule) (v : ℕ)
    → has_thing (rule_reads plan rule) (var_at v)
    ≡ (list_any (nat_eq v) (vars_of_condition (slice_get plan.conditions rule.condition))
    || list_any (nat_eq v) (vars_of_kind plan rule.kind))
rule_var plan rule v =
    list_any-append (same_thing (var_at v)) (map slot_at (rule.slots ++ slots_of_kind plan rule.kind))
    (map var_at (vars_of_condition (slice_get plan.conditions rule.condition) ++ vars_of_kind plan rule.kind))
    ∙ (ap (λ b. b || list_any (same_thing (var_at v))
    (map var_at (vars_of_condition (slice_get plan.conditions rule.condition) ++ vars_of_kind plan rule.kind)))
    (no_var v (rule.slots ++ slots_of_kind plan rule.kind))
    ∙ (vars_in v (vars_of_condition (slice_get plan.conditions rule.condition) ++ vars_of_kind plan rule.kind)
    ∙ list_any-append (nat_eq v) (vars_of_condition (slice_get plan.conditions rule.condition))
    (vars_of_kind plan rule.kind)))

pub ruleset things = (slot_read, rule_slot, rule_var)
