-- Slots, variables and texts are the same in two models of which the same is seen.
use Rattle.std.proofs.Common.{◌≡◌, ℕ, zero, suc, ◌+◌, not, nat_lt, List, [], ◌∷◌, ◌++◌, length, map, take}
use Rattle.std.proofs.Common.{refl, sym, ap, ◌∙◌, Option, None, Some, option_map}
use Rattle.std.specs.Prelude.{sum_by}
use Rattle.std.specs.List.{filter, list_any}
use Rattle.vc_model_parts.specs.declared.parts.BillItem.{BillItem}
use Rattle.vc_model_parts.specs.declared.parts.NamedDependency.{NamedDependency}
use Rattle.vc_model_parts.specs.declared.parts.Object.{Object}
use Rattle.vc_model_drafts.specs.Seen.{SeenDependency, SeenItem, SeenObject, seen_dependency, seen_item, seen_object}
use Rattle.vc_syntax_tree.specs.Trees.{Dependency, dependency_of}
use Rattle.vc_types.specs.Settings.{is_multiple}
use Rattle.vc_plan.specs.declared.plans.Slot.{Slot}
use Rattle.vc_compile_plan.specs.Layouts.{tree_of}
use Rattle.vc_compile_plan.specs.Slots.{bill_if, bill_in, bill_of, components_of, for_line, for_lines, has_levels_below}
use Rattle.vc_compile_plan.specs.Slots.{has_too_many_slots, is_too_deep, line_number, most_levels, most_slots}
use Rattle.vc_compile_plan.specs.Slots.{object_in, slot_of, slots_of, standings_from, standings_of}
use Rattle.vc_compile_plan.specs.Texts.{each_once, is_text_of, named_texts, texts_in, texts_of}
use Rattle.vc_compile_plan.specs.Variables.{by_slot, members_if, members_of, set_at, sets_at, sets_of, var_at, vars_at}
use Rattle.vc_compile_plan.specs.Variables.{vars_of}
use Rattle.vc_compile_plan.specs.declared.standings.Standing.{Standing}
use Rattle.vc_compile_same.specs.Twins.{Twins, laid_of, other}
use Rattle.vc_compile_same.proofs.ListLaws.{filter_same, flat_same, got, length_same}
use Rattle.vc_compile_same.proofs.NameLaws.{class_of_same}

-- what is seen of the bill of an object
abbrev seen_bill : Option SeenObject → List SeenItem
seen_bill None = []
seen_bill (Some object) = object.bill

bill_seen : (o : Option Object) → map seen_item (bill_in o) ≡ seen_bill (option_map seen_object o)
bill_seen None = refl
bill_seen (Some object) = refl

-- what stands for lines, by what is seen of them
abbrev for_seen : (ℕ → ℕ → ℕ → List Standing) → ℕ → ℕ → List SeenItem → List Standing
for_seen brought item number [] = []
for_seen brought item number (line ∷ lines) =
    let first = for_line (brought item number) (object_in line.component) in
    first ++ for_seen brought (suc item) (number + length first) lines

lines_seen : (brought : ℕ → ℕ → ℕ → List Standing) (item number : ℕ) (lines : List BillItem)
    → for_lines brought item number lines ≡ for_seen brought item number (map seen_item lines)
lines_seen brought item number [] = refl
lines_seen brought item number (line ∷ lines) =
    let first = for_line (brought item number) (object_in line.component) in
    ap (λ rest. first ++ rest) (lines_seen brought (suc item) (number + length first) lines)

lines_same : (b c : ℕ → ℕ → ℕ → List Standing) → ((item number o : ℕ) → b item number o ≡ c item number o)
    → (item number : ℕ) (xs ys : List BillItem) → map seen_item xs ≡ map seen_item ys
    → for_lines b item number xs ≡ for_lines c item number ys
lines_same b c brings item number xs ys same =
    lines_seen b item number xs ∙ (λ i. for_seen (λ j n o. brings j n o i) item number (same i))
    ∙ sym (lines_seen c item number ys)

-- what is seen of a dependency that is there
abbrev seen_tree : Option SeenDependency → Option Dependency
seen_tree None = None
seen_tree (Some named) = Some named.tree

tree_seen : (o : Option NamedDependency)
    → option_map (λ named. dependency_of named.tree) o ≡ seen_tree (option_map seen_dependency o)
tree_seen None = refl
tree_seen (Some named) = refl

module _ (t : Twins) where
  -- bills
  pub bill_same : (o : ℕ) → map seen_item (bill_of t.one o) ≡ map seen_item (bill_of (other t) o)
  bill_same o =
      got seen_object (λ x. map seen_item (bill_in x)) (λ x. map seen_item (bill_in x)) seen_bill bill_seen bill_seen
      (t.one).objects t.objects t.same_objects
      o

  pub bill_if_same : (o : Option ℕ) → map seen_item (bill_if t.one o) ≡ map seen_item (bill_if (other t) o)
  bill_if_same None = refl
  bill_if_same (Some o) = bill_same o

  count_same : (o : ℕ) → length (bill_of t.one o) ≡ length (bill_of (other t) o)
  count_same o = length_same seen_item (bill_of t.one o) (bill_of (other t) o) (bill_same o)

  components_same : (o : ℕ) → components_of t.one o ≡ components_of (other t) o
  components_same o =
      filter_same seen_item (λ line. object_in line.component) (bill_of t.one o) (bill_of (other t) o) (bill_same o)

  -- levels and slots
  levels_same : (levels o : ℕ) → has_levels_below t.one levels o ≡ has_levels_below (other t) levels o
  levels_same zero o = refl
  levels_same (suc levels) o = λ i. list_any (λ c. levels_same levels c i) (components_same o i)

  pub deep_same : is_too_deep t.one ≡ is_too_deep (other t)
  deep_same = levels_same most_levels (t.one).root

  standings_from_same : (levels : ℕ) (parent : Option ℕ) (depth item number o : ℕ)
      → standings_from t.one levels parent depth item number o
      ≡ standings_from (other t) levels parent depth item number o
  standings_from_same zero parent depth item number o = refl
  standings_from_same (suc levels) parent depth item number o =
      ap (λ below. record { parent = parent; depth = depth; object = o; item = item } ∷ below)
      (lines_same (standings_from t.one levels (Some number) (suc depth))
      (standings_from (other t) levels (Some number) (suc depth))
      (standings_from_same levels (Some number) (suc depth)) 0 (suc number)
      (bill_of t.one o) (bill_of (other t) o) (bill_same o))

  standings_same : standings_of t.one ≡ standings_of (other t)
  standings_same = standings_from_same most_levels None 0 0 0 (t.one).root

  line_number_same : (standings : List Standing) (parent : Option ℕ) (item : ℕ)
      → line_number t.one standings parent item ≡ line_number (other t) standings parent item
  line_number_same standings None item = refl
  line_number_same standings (Some p) item = λ i.
      sum_by (λ standing. count_same standing.object i) (take p standings) + item

  slot_same : (standings : List Standing) (standing : Standing)
      → slot_of t.one standings standing ≡ slot_of (other t) standings standing
  slot_same standings standing = λ i.
      record {
        parent = standing.parent;
        depth = standing.depth;
        object = standing.object;
        line = line_number_same standings standing.parent standing.item i;
      }

  slots_same : slots_of t.one ≡ slots_of (other t)
  slots_same = λ i. map (λ standing. slot_same (standings_same i) standing i) (standings_same i)

  pub many_same : has_too_many_slots t.one ≡ has_too_many_slots (other t)
  many_same = λ i. nat_lt most_slots (length (slots_same i))

  -- variables and sets
  members_if_same : (class : Option ℕ) → members_if t.one class ≡ members_if (other t) class
  members_if_same None = refl
  members_if_same (Some class) = refl

  pub members_same : (o : ℕ) → members_of t.one o ≡ members_of (other t) o
  members_same o = λ i. members_if_same (class_of_same t (Some o) i) i

  vars_at_same : (n : ℕ) (slot : Slot) → vars_at t.one n slot ≡ vars_at (other t) n slot
  vars_at_same n slot = λ i.
      map (var_at t.one n) (filter (λ c. not (is_multiple t.one c)) (members_same slot.object i))

  vars_same : (slots : List Slot) → vars_of t.one slots ≡ vars_of (other t) slots
  vars_same slots = λ i. by_slot (λ n slot. vars_at_same n slot i) 0 slots

  sets_at_same : (n : ℕ) (slot : Slot) → sets_at t.one n slot ≡ sets_at (other t) n slot
  sets_at_same n slot = λ i. map (set_at n) (filter (is_multiple t.one) (members_same slot.object i))

  sets_same : (slots : List Slot) → sets_of t.one slots ≡ sets_of (other t) slots
  sets_same slots = λ i. by_slot (λ n slot. sets_at_same n slot i) 0 slots

  -- trees and texts
  pub tree_same : (d : ℕ) → tree_of t.one d ≡ tree_of (other t) d
  tree_same d =
      got seen_dependency (option_map (λ named. dependency_of named.tree))
      (option_map (λ named. dependency_of named.tree)) seen_tree tree_seen tree_seen
      (t.one).dependencies t.dependencies t.same_dependencies
      d

  named_texts_same : named_texts t.one ≡ named_texts (other t)
  named_texts_same =
      flat_same seen_dependency (λ named. texts_in named.tree) (t.one).dependencies t.dependencies t.same_dependencies

  texts_same : texts_of t.one ≡ texts_of (other t)
  texts_same = λ i.
      (t.one).texts ++ each_once (filter (λ text. not (is_text_of (t.one).texts text)) (named_texts_same i))

  -- what a layout has beside its model
  pub laid_same : laid_of t.one ≡ laid_of (other t)
  laid_same = λ i.
      record {
        standings = standings_same i;
        slots = slots_same i;
        vars = vars_same (slots_same i) i;
        sets = sets_same (slots_same i) i;
        texts = texts_same i;
      }
