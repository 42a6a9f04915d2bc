-- The facts of a valid plan as tests with their names, and which of them a plan breaks.
use Rattle.std.proofs.Common.{◌≡◌, ℕ, zero, suc, Bool, true, false, cond, ◌&&◌, List, [], ◌∷◌, length, drop, refl, sym}
use Rattle.std.proofs.Common.{◌∙◌}
use Rattle.std.proofs.Common.{arith, subst}
use Rattle.std.proofs.lemmas.Bool.{and_parts, ltb-true}
use Rattle.std.proofs.lemmas.Str.{IsUtf8-from_ascii}
use Rattle.std.specs.Prelude.{◌^◌, IsUtf8, IsAscii, not, ◌==◌, nat_lt, nat_le, slice_get, Some, codes, if◌then◌else◌}
use Rattle.std.specs.List.{list_all}
use Rattle.vc_value.specs.Words.{same_bytes}
use Rattle.vc_plan.specs.declared.plans.Plan.{Plan}
use Rattle.vc_plan.specs.Alike.{are_of_one_domain, sets_of_one_domain, is_proper, have_one_bill, have_one_routing}
use Rattle.vc_plan.specs.Alike.{lines_at, operations_at}
use Rattle.vc_plan.specs.Bounds.{cell_bound}
use Rattle.vc_plan.specs.Classes.{has_sets, has_its_vars, has_its_sets, are_procedures_in_order, are_guards_in_order}
use Rattle.vc_plan.specs.Cuts.{is_cut}
use Rattle.vc_plan.specs.Domains.{numbers_below, count_of, atom_count}
use Rattle.vc_plan.specs.Lists.{has_its_list, has_its_texts, are_listed}
use Rattle.vc_plan.specs.PartSums.{sums_numbers, condition_sums_numbers}
use Rattle.vc_plan.specs.Ranges.{characteristic_there, object_there, slot_there, var_there, set_there, domain_there}
use Rattle.vc_plan.specs.Ranges.{condition_there, term_there}
use Rattle.vc_plan.specs.RuleRanges.{rule_there, table_there}
use Rattle.vc_plan.specs.ProcedureRanges.{procedure_there}
use Rattle.vc_plan.specs.BillRanges.{line_there, operation_there, guard_there, requirement_there}
use Rattle.vc_plan.specs.Orders.{are_apart, are_in_order}
use Rattle.vc_plan.specs.Slots.{is_root, is_below, follows_in_preorder, is_item_before, has_its_slots}
use Rattle.vc_plan.specs.RuleShapes.{stays_at_its_slots, is_numbered, has_one_last, has_its_lines, are_one_rule}
use Rattle.vc_plan.specs.RuleShapes.{are_one_line, are_with_and_without, asks_by_right, columns_once, is_not_among}
use Rattle.vc_plan.specs.LookUps.{writes_own, action_proper, keys_apart, trigger_listed, guard_listed}
use Rattle.vc_plan.specs.Outside.{conditions_outside, terms_outside}
use Rattle.vc_plan.specs.Scopes.{reads_own, guard_own, requirement_own, operation_own, line_own, rule_own}
use Rattle.vc_plan.specs.Spelling.{is_upper_name, is_material, is_unit, is_text}
use Rattle.vc_plan.specs.Typing.{is_numeric, condition_typed, kind_typed, statement_typed}
use Rattle.vc_plan.specs.Monotone.{has_part_sum, condition_sums, is_for_nets}
use Rattle.vc_plan.specs.Sizes.{is_small, condition_small}
use Rattle.vc_plan.specs.Valid.{IsValid, each_slot, each_var, each_statement, asks, means, is_line_before}
use Rattle.vc_plan.specs.Valid.{is_operation_before, has_graphic_texts, list_length, is_four_digits}

pub record Fact : Type 0 where
  pub name : List ℕ
  pub holds : Bool

abbrev pub fact : List ℕ → Bool → Fact
fact name holds = record { name = name; holds = holds }

-- the names of those that fail
abbrev pub failing : List Fact → List (List ℕ)
failing [] = []
failing (f ∷ fs) = let rest = failing fs in if f.holds then rest else f.name ∷ rest

-- all facts
abbrev pub facts : Plan → List Fact
facts plan =
    fact (codes "characteristics_there") (list_all (characteristic_there plan) plan.characteristics)
    ∷ fact (codes "objects_there") (list_all (object_there plan) plan.objects)
    ∷ fact (codes "slots_there") (list_all (slot_there plan) plan.slots)
    ∷ fact (codes "vars_there") (list_all (var_there plan) plan.vars)
    ∷ fact (codes "sets_there") (list_all (set_there plan) plan.sets)
    ∷ fact (codes "domains_there") (list_all (domain_there plan) plan.domains)
    ∷ fact (codes "tables_there") (list_all (table_there plan) plan.tables)
    ∷ fact (codes "conditions_there") (list_all (condition_there plan) plan.conditions)
    ∷ fact (codes "terms_there") (list_all (term_there plan) plan.terms)
    ∷ fact (codes "rules_there") (list_all (rule_there plan) plan.rules)
    ∷ fact (codes "procedures_there") (list_all (procedure_there plan) plan.procedures)
    ∷ fact (codes "lines_there") (list_all (line_there plan) plan.lines)
    ∷ fact (codes "operations_there") (list_all (operation_there plan) plan.operations)
    ∷ fact (codes "guards_there") (list_all (guard_there plan) plan.guards)
    ∷ fact (codes "requirements_there") (list_all (requirement_there plan) plan.requirements)
    ∷ fact (codes "root") (is_root (slice_get plan.slots 0))
    ∷ fact (codes "below") (list_all (λ slot. is_below plan slot slot.parent) (drop 1 plan.slots))
    ∷ fact (codes "preorder") (each_slot plan (follows_in_preorder plan))
    ∷ fact (codes "items") (are_in_order is_item_before plan.slots)
    ∷ fact (codes "line_slots")
    (list_all (λ l. has_its_slots plan l (slice_get plan.lines l)) (numbers_below (length plan.lines)))
    ∷ fact (codes "classes") (list_all (λ object. are_apart (λ c d. c == d) object.characteristics) plan.objects)
    ∷ fact (codes "class_vars") (each_slot plan (has_its_vars plan))
    ∷ fact (codes "class_sets") (each_slot plan (has_its_sets plan))
    ∷ fact (codes "vars_by_slot") (are_in_order (λ a b. nat_le a.slot b.slot) plan.vars)
    ∷ fact (codes "sets_by_slot") (are_in_order (λ a b. nat_le a.slot b.slot) plan.sets)
    ∷ fact (codes "one_domain") (list_all (λ x. list_all (are_of_one_domain x) plan.vars) plan.vars)
    ∷ fact (codes "one_text_list") (list_all (λ x. list_all (sets_of_one_domain x) plan.sets) plan.sets)
    ∷ fact (codes "one_bill") (each_slot plan (λ i. each_slot plan (have_one_bill plan i)))
    ∷ fact (codes "one_routing") (each_slot plan (λ i. each_slot plan (have_one_routing plan i)))
    ∷ fact (codes "lists") (list_all (λ characteristic. is_proper characteristic.list) plan.characteristics)
    ∷ fact (codes "some_grain") (each_var plan (λ v. nat_lt 0 (count_of plan v)))
    ∷ fact (codes "proper") (list_all is_proper plan.domains)
    ∷ fact (codes "whole") (list_all (has_its_list plan) plan.vars)
    ∷ fact (codes "cut") (each_var plan (is_cut plan))
    ∷ fact (codes "set_texts") (list_all (has_its_texts plan) plan.sets)
    ∷ fact (codes "table_columns")
    (list_all (λ table. are_apart (λ a b. a.characteristic == b.characteristic) table.columns) plan.tables)
    ∷ fact (codes "single_columns")
    (list_all (λ table. list_all (λ c. not (has_sets plan c.characteristic)) table.columns) plan.tables)
    ∷ fact (codes "cells") (list_all (λ table. list_all (are_listed plan table.columns) table.rows) plan.tables)
    ∷ fact (codes "keys") (list_all keys_apart plan.tables)
    ∷ fact (codes "own_slots") (list_all (stays_at_its_slots plan) plan.rules)
    ∷ fact (codes "numbered") (list_all is_numbered plan.rules)
    ∷ fact (codes "rules_once") (are_apart are_one_rule plan.rules)
    ∷ fact (codes "lines_once") (are_apart are_one_line plan.rules)
    ∷ fact (codes "lasts") (each_var plan (has_one_last plan))
    ∷ fact (codes "slot_lines") (each_slot plan (has_its_lines plan))
    ∷ fact (codes "lone_lines") (are_apart are_with_and_without plan.rules)
    ∷ fact (codes "asked_by_right") (list_all (asks_by_right plan) plan.rules)
    ∷ fact (codes "columns") (list_all (λ rule. columns_once rule.kind) plan.rules)
    ∷ fact (codes "not_among") (list_all (λ rule. is_not_among plan rule.kind) plan.rules)
    ∷ fact (codes "conditions_typed") (list_all (condition_typed plan) plan.conditions)
    ∷ fact (codes "rules_typed") (list_all (λ rule. kind_typed plan rule.kind) plan.rules)
    ∷ fact (codes "statements_typed") (each_statement plan (statement_typed plan))
    ∷ fact (codes "quantities") (list_all (λ line. means plan (is_numeric plan) line.quantity) plan.lines)
    ∷ fact (codes "times") (list_all (λ operation. means plan (is_numeric plan) operation.time) plan.operations)
    ∷ fact (codes "nets") (list_all (λ rule. asks plan is_for_nets rule.condition) plan.rules)
    ∷ fact (codes "no_sum_asked") (list_all (asks plan (λ c. not (condition_sums c))) (conditions_outside plan))
    ∷ fact (codes "no_sum_meant") (list_all (means plan (λ term. not (has_part_sum term))) (terms_outside plan))
    ∷ fact (codes "sums_asked") (list_all (condition_sums_numbers plan) plan.conditions)
    ∷ fact (codes "sums_meant") (list_all (sums_numbers plan) plan.terms)
    ∷ fact (codes "terms_small") (list_all (is_small plan) plan.terms)
    ∷ fact (codes "conditions_small") (list_all (condition_small plan) plan.conditions)
    ∷ fact (codes "own_writes") (list_all (writes_own plan) plan.procedures)
    ∷ fact (codes "look_ups") (each_statement plan (λ statement. action_proper plan statement.action))
    ∷ fact (codes "procedure_reads") (list_all (reads_own plan) plan.procedures)
    ∷ fact (codes "guard_reads") (list_all (guard_own plan) plan.guards)
    ∷ fact (codes "requirement_reads") (list_all (requirement_own plan) plan.requirements)
    ∷ fact (codes "operation_reads") (list_all (operation_own plan) plan.operations)
    ∷ fact (codes "line_reads") (list_all (line_own plan) plan.lines)
    ∷ fact (codes "component_reads") (list_all (rule_own plan) plan.rules)
    ∷ fact (codes "triggers")
    (list_all (λ procedure. trigger_listed plan procedure.slot procedure.trigger) plan.procedures)
    ∷ fact (codes "guards") (list_all (guard_listed plan) plan.guards)
    ∷ fact (codes "lines_in_order") (are_in_order is_line_before plan.lines)
    ∷ fact (codes "operations_in_order") (are_in_order is_operation_before plan.operations)
    ∷ fact (codes "procedures_in_order") (are_in_order (are_procedures_in_order plan) plan.procedures)
    ∷ fact (codes "guards_in_order") (are_in_order (are_guards_in_order plan) plan.guards)
    ∷ fact (codes "name") (is_upper_name plan.name)
    ∷ fact (codes "version") ((nat_lt 0 plan.version && nat_lt plan.version 1_000_000))
    ∷ fact (codes "names") (list_all (λ characteristic. is_upper_name characteristic.name) plan.characteristics)
    ∷ fact (codes "units") (list_all (λ characteristic. is_unit characteristic.unit) plan.characteristics)
    ∷ fact (codes "dependency_names") (list_all is_upper_name plan.dependencies)
    ∷ fact (codes "table_names") (list_all (λ table. is_upper_name table.name) plan.tables)
    ∷ fact (codes "materials") (list_all (λ object. is_material object.material) plan.objects)
    ∷ fact (codes "line_words") (list_all (λ line. is_material line.material && is_material line.unit) plan.lines)
    ∷ fact (codes "operation_words")
    (list_all (λ operation. is_upper_name operation.name && is_material operation.unit) plan.operations)
    ∷ fact (codes "line_items") (list_all (λ line. is_four_digits line.item) plan.lines)
    ∷ fact (codes "operation_numbers") (list_all (λ operation. is_four_digits operation.number) plan.operations)
    ∷ fact (codes "texts") (list_all is_text plan.texts)
    ∷ fact (codes "listed_texts") (list_all (has_graphic_texts plan) plan.characteristics)
    ∷ fact (codes "names_once") (are_apart (λ a b. same_bytes a.name b.name) plan.characteristics)
    ∷ fact (codes "dependencies_once") (are_apart same_bytes plan.dependencies)
    ∷ fact (codes "tables_once") (are_apart (λ a b. same_bytes a.name b.name) plan.tables)
    ∷ fact (codes "materials_once") (are_apart (λ a b. same_bytes a.material b.material) plan.objects)
    ∷ fact (codes "texts_once") (are_apart same_bytes plan.texts)
    ∷ fact (codes "levels") (list_all (λ slot. nat_lt slot.depth 4) plan.slots)
    ∷ fact (codes "slot_limit") (nat_le (length plan.slots) 40)
    ∷ fact (codes "rule_limit") (nat_le (length plan.rules) 20_000)
    ∷ fact (codes "atom_limit") (nat_le (atom_count plan) 40_000)
    ∷ fact (codes "cell_limit") (nat_le (cell_bound plan) 500_000)
    ∷ fact (codes "characteristic_limit") (nat_le (length plan.characteristics) 2_000)
    ∷ fact (codes "list_limit")
    (list_all (λ characteristic. nat_le (list_length characteristic) 1_000) plan.characteristics)
    ∷ fact (codes "class_limit") (list_all (λ object. nat_le (length object.characteristics) 500) plan.objects)
    ∷ fact (codes "object_limit") (nat_le (length plan.objects) 500)
    ∷ fact (codes "dependency_limit") (nat_le (length plan.dependencies) 2_000)
    ∷ fact (codes "table_limit") (nat_le (length plan.tables) 200)
    ∷ fact (codes "row_limit") (list_all (λ table. nat_le (length table.rows) 10_000) plan.tables)
    ∷ fact (codes "column_limit") (list_all (λ table. nat_le (length table.columns) 20) plan.tables)
    ∷ fact (codes "line_limit") (each_slot plan (λ i. nat_le (length (lines_at plan i)) 1_000))
    ∷ fact (codes "operation_limit") (each_slot plan (λ i. nat_le (length (operations_at plan i)) 1_000))
    ∷ fact (codes "procedure_limit") (nat_lt (length plan.procedures) (2 ^ 32))
    ∷ fact (codes "statement_limit")
    (list_all (λ procedure. nat_lt (length procedure.statements) (2 ^ 32)) plan.procedures)
    ∷ []

-- those that a plan breaks
abbrev pub broken : Plan → List (List ℕ)
broken plan = failing (facts plan)

-- it breaks this one alone
abbrev pub Breaks : List ℕ → Plan → Type 0
Breaks name plan = broken plan ≡ name ∷ []

-- all of a list hold
abbrev pub Hold : List Fact → Type 0
Hold [] = Unit {0}
Hold (f ∷ fs) = (f.holds ≡ true) × Hold fs

one_holds : (b : Bool) (name : List ℕ) (rest : List (List ℕ)) → cond b rest (name ∷ rest) ≡ []
    → (b ≡ true) × (rest ≡ [])
one_holds true name rest e = (refl, e)
one_holds false name rest e = absurd (cc e)

none_fails : (fs : List Fact) → failing fs ≡ [] → Hold fs
none_fails [] e = tt
none_fails (f ∷ fs) e = let both = one_holds f.holds f.name (failing fs) e in (both.0, none_fails fs both.1)

keeps : (b : Bool) (name : List ℕ) (rest : List (List ℕ)) → b ≡ true → rest ≡ [] → cond b rest (name ∷ rest) ≡ []
keeps true name rest holds none = none
keeps false name rest holds none = absurd (cc)

all_hold : (fs : List Fact) → Hold fs → failing fs ≡ []
all_hold [] h = refl
all_hold (f ∷ fs) h = keeps f.holds f.name (failing fs) h.0 (all_hold fs h.1)

-- a plan that breaks none is valid, and one that breaks some isn't
holding : (plan : Plan) → IsValid plan → Hold (facts plan)
holding plan valid = assumption valid

AreUtf8 : List (List ℕ) → Type 0
AreUtf8 texts = (t : ℕ) (text : List ℕ) → slice_get texts t ≡ Some text → IsUtf8 text

from_both : (plan : Plan) → Hold (facts plan) → AreUtf8 plan.texts → IsValid plan
unfolding AreUtf8
from_both plan h utf8 = assumption (h, utf8)

-- of texts in ASCII that is known
ascii : (bytes : List ℕ) → list_all (λ b. nat_lt b 128) bytes ≡ true → IsAscii bytes
ascii [] h i = omega arith
ascii (b ∷ bytes) h zero = ltb-true b 128 (and_parts (nat_lt b 128) (list_all (λ c. nat_lt c 128) bytes) h).0
ascii (b ∷ bytes) h (suc i) = ascii bytes (and_parts (nat_lt b 128) (list_all (λ c. nat_lt c 128) bytes) h).1 i

ascii_texts : (texts : List (List ℕ)) → list_all (list_all (λ b. nat_lt b 128)) texts ≡ true → AreUtf8 texts
unfolding AreUtf8
ascii_texts [] h t text is = absurd (cc is)
ascii_texts (first ∷ texts) h zero text is =
    let both = and_parts (list_all (λ b. nat_lt b 128) first) (list_all (list_all (λ b. nat_lt b 128)) texts) h in
    subst IsUtf8 (cc is) (IsUtf8-from_ascii first (ascii first both.0))
ascii_texts (first ∷ texts) h (suc t) text is =
    let both = and_parts (list_all (λ b. nat_lt b 128) first) (list_all (list_all (λ b. nat_lt b 128)) texts) h in
    ascii_texts texts both.1 t text is

pub valid_from : (plan : Plan) → list_all (list_all (λ b. nat_lt b 128)) plan.texts ≡ true → broken plan ≡ []
    → IsValid plan
valid_from plan in_ascii none = from_both plan (none_fails (facts plan) none) (ascii_texts plan.texts in_ascii)

pub refused : (plan : Plan) (name : List ℕ) (names : List (List ℕ)) → broken plan ≡ name ∷ names → IsValid plan → ⊥
refused plan name names breaks valid = differ (sym breaks ∙ all_hold (facts plan) (holding plan valid))
  where
    differ : name ∷ names ≡ [] → ⊥
    differ e = cc
