-- Procedures and preconditions of a plan are by slot, in class order and list order.
use Rattle.std.proofs.Common.{◌≡◌, ℕ, zero, suc, ◌+◌, ◌<◌, ◌≤◌, Bool, true, false, not, ◌&&◌, ◌||◌, nat_lt, List, []}
use Rattle.std.proofs.Common.{◌∷◌, ◌++◌, flat_map, Option, Some, None, refl, sym, ap, ◌∙◌, arith, subst, if◌then◌else◌}
use Rattle.std.proofs.Common.{inl, inr}
use Rattle.std.specs.Prelude.{◌==◌, slice_get, option_map}
use Rattle.std.specs.List.{cons_option, list_all, list_any, position_or_len}
use Rattle.std.proofs.lemmas.Bool.{and_from, and_parts, cases_order, eq-eqb, eqb-true, lt-ltb, ltb-true, ne_eqb}
use Rattle.std.proofs.lemmas.Bool.{or_left, or_right}
use Rattle.std.proofs.lemmas.Option.{slice_get-map}
use Rattle.vc_model_parts.specs.declared.parts.Characteristic.{Characteristic}
use Rattle.vc_model_parts.specs.declared.parts.Model.{Model}
use Rattle.vc_model_parts.specs.declared.parts.Object as configurable
use Rattle.vc_plan.specs.Alike.{is_proper}
use Rattle.vc_plan.specs.Classes.{are_guards_in_order, are_procedures_in_order, class_at, class_in, class_of_slot}
use Rattle.vc_plan.specs.Classes.{class_place, characteristic_at, is_not_behind, list_at, number_or_zero, place_in}
use Rattle.vc_plan.specs.Classes.{trigger_place, value_place}
use Rattle.vc_plan.specs.Lists.{is_entry, list_in, list_of, list_place}
use Rattle.vc_plan.specs.LookUps.{trigger_listed}
use Rattle.vc_plan.specs.Orders.{are_apart, are_in_order, is_number}
use Rattle.vc_plan.specs.Showing.{slot_of_named}
use Rattle.vc_plan.specs.declared.conditions.Piece.{Piece}
use Rattle.vc_plan.specs.declared.conditions.Piece.TheVariants.{OneText}
use Rattle.vc_plan.specs.declared.plans.Named.{Named}
use Rattle.vc_plan.specs.declared.plans.Named.TheVariants.{Var, Set}
use Rattle.vc_plan.specs.declared.plans.Object.{Object}
use Rattle.vc_plan.specs.declared.plans.Plan.{Plan}
use Rattle.vc_plan.specs.declared.plans.Slot.{Slot}
use Rattle.vc_plan.specs.declared.procedures.Trigger.{Trigger}
use Rattle.vc_plan.specs.declared.procedures.Trigger.TheVariants.{Anyway}
use Rattle.vc_syntax_tree.specs.Trees.{Statement}
use Rattle.vc_table.specs.declared.table.VariantTable.{VariantTable}
use Rattle.vc_types.specs.Looking as looking
use Rattle.vc_types.specs.Settings.{is_multiple, multiple_in}
use Rattle.vc_compile_plan.specs.Conditions.{text_in_piece}
use Rattle.vc_compile_plan.specs.Layouts.{Layout, layout_of, tree_of}
use Rattle.vc_compile_plan.specs.Numbering.{drafts_of, guard_brings, guard_from, guards_begin, procedure_brings}
use Rattle.vc_compile_plan.specs.Numbering.{procedure_from, procedure_terms_begin, procedures_begin}
use Rattle.vc_compile_plan.specs.PlanOf.{IsPlanOf}
use Rattle.vc_compile_plan.specs.Places.{characteristic_site, preconditions_among, statements_in}
use Rattle.vc_compile_plan.specs.Procedures.{ProcedureDraft, entries_in, procedure_at, procedures_among, procedures_at}
use Rattle.vc_compile_plan.specs.Procedures.{profile_in, trigger_of, uses_in, value_procedures}
use Rattle.vc_compile_plan.specs.Shown.{Entry, GuardDraft, choice_at, entries_of, guard_drafts, guards_among, guards_at}
use Rattle.vc_compile_plan.specs.Shown.{guards_of}
use Rattle.vc_compile_plan.specs.Sites.{Site, named_at}
use Rattle.vc_compile_plan.specs.Slots.{slots_of}
use Rattle.vc_compile_plan.specs.Tables.{characteristic_from, object_from, objects_from}
use Rattle.vc_compile_plan.specs.Variables.{by_slot, members_if, members_of, set_number, var_number}
use Rattle.vc_compile_valid.specs.Models.{KeepsValues, all_values}
use Rattle.vc_compile_valid.specs.Places.{HasOnce, HasPlaces}
use Rattle.vc_compile_valid.proofs.EachLaws.{Each, each_both, each_by_slot, each_flat, each_joined, each_mapped}
use Rattle.vc_compile_valid.proofs.EachLaws.{each_more, each_of_all, each_passes, order_joined}
use Rattle.vc_compile_valid.proofs.EntryLaws.{are_one_text, entries_listed, entries_ordered, places_ordered}
use Rattle.vc_compile_valid.proofs.LineSlotLaws.{numbered_made, objects_at}
use Rattle.vc_compile_valid.proofs.ListLaws.{passes_there}
use Rattle.vc_compile_valid.proofs.NamedLaws.{IsNamedAt, each_among, named_at_slot}
use Rattle.vc_compile_valid.proofs.OrderedLaws.{flat_ordered, numbered_ordered}

-- the class of a slot's object in the plan is that in the model
pub class_same : (model : Model) (o : ℕ)
    → class_in (slice_get (objects_from model 0 model.objects) o) ≡ members_of model o
class_same model o =
    ap class_in (objects_at model 0 model.objects o o (no_front o)) ∙ by (slice_get model.objects o) refl
  where
    no_front : (i : ℕ) → i ≡ 0 + i
    no_front i = omega arith

    by : (x : Option configurable.Object) → slice_get model.objects o ≡ x
        → class_in (option_map (object_from model o) x) ≡ members_of model o
    by None e = sym (ap (λ y. members_if model (looking.class_in y)) e)
    by (Some x) e = refl

pub class_is : (model : Model) (tables : List VariantTable) (plan : Plan) → IsPlanOf model tables plan
    → (i : ℕ) (slot : Slot)
    → slice_get (slots_of model) i ≡ Some slot → class_at plan (slice_get plan.slots i) ≡ members_of model slot.object
class_is model tables plan is i slot e =
    ap (λ ss. class_at plan (slice_get ss i)) is.slots ∙ ap (class_at plan) e
    ∙ ap (λ os. class_in (slice_get os slot.object)) is.objects ∙ class_same model slot.object

members_apart : (model : Model) (tables : List VariantTable) (plan : Plan) → IsPlanOf model tables plan → HasOnce plan
    → (o : ℕ)
    → are_apart (λ c d. c == d) (members_of model o) ≡ true
members_apart model tables plan is once o =
    ap (are_apart (λ c d. c == d)) (sym (class_same model o))
    ∙ ap (λ os. are_apart (λ c d. c == d) (class_in (slice_get os o))) (sym is.objects)
    ∙ by (slice_get plan.objects o) refl
  where
    by : (x : Option Object) → slice_get plan.objects o ≡ x → are_apart (λ c d. c == d) (class_in x) ≡ true
    by None e = refl
    by (Some x) e = passes_there (λ object. are_apart (λ c d. c == d) object.characteristics) plan.objects o x
        once.classes e

-- the place of a characteristic in its slot's class
pub named_place : (model : Model) (tables : List VariantTable) (plan : Plan) → IsPlanOf model tables plan
    → (i : ℕ) (slot : Slot)
    → slice_get (slots_of model) i ≡ Some slot → (c : ℕ) (n : Named) → IsNamedAt plan i c n
    → class_place plan n ≡ position_or_len (λ d. d == c) (members_of model slot.object)
named_place model tables plan is i slot e c n named =
    ap (λ o. place_in (class_of_slot plan o) (characteristic_at plan n)) named.slot
    ∙ ap (place_in (class_of_slot plan (Some i))) named.named.characteristic
    ∙ ap (position_or_len (λ d. d == c)) (class_is model tables plan is i slot e)

-- the list of what a name means is that of its characteristic's values
pub list_is : (model : Model) (tables : List VariantTable) (plan : Plan) → IsPlanOf model tables plan
    → KeepsValues model
    → (i c : ℕ) (n : Named) → IsNamedAt plan i c n → (x : Characteristic) → slice_get model.characteristics c ≡ Some x
    → list_at plan n ≡ Some (all_values x.values)
list_is model tables plan is keeps i c n named x e =
    ap (list_of plan) named.named.characteristic
    ∙ ap (λ cs. list_in (slice_get cs c)) is.characteristics
    ∙ ap list_in (slice_get-map characteristic_from model.characteristics c ∙ ap (option_map characteristic_from) e)
    ∙ ap Some (keeps.domains c x e)

values_proper : (model : Model) (tables : List VariantTable) (plan : Plan) → IsPlanOf model tables plan
    → KeepsValues model
    → HasOnce plan → (c : ℕ) (x : Characteristic) → slice_get model.characteristics c ≡ Some x
    → is_proper (all_values x.values) ≡ true
values_proper model tables plan is keeps once c x e =
    ap is_proper (sym (keeps.domains c x e))
    ∙ passes_there (λ characteristic. is_proper characteristic.list) plan.characteristics c (characteristic_from x)
    once.lists
    (ap (λ cs. slice_get cs c) is.characteristics ∙ slice_get-map characteristic_from model.characteristics c
    ∙ ap (option_map characteristic_from) e)

-- lists of numbers by the first in which they differ
same_is_not_behind : (i : ℕ) (ms ns : List ℕ) → is_not_behind ms ns ≡ true → is_not_behind (i ∷ ms) (i ∷ ns) ≡ true
same_is_not_behind i ms ns h =
    or_right (nat_lt i i) ((i == i) && is_not_behind ms ns)
    (and_from (i == i) (is_not_behind ms ns) (eq-eqb i i refl) h)

less_is_not_behind : (i j : ℕ) (ms ns : List ℕ) → i < j → is_not_behind (i ∷ ms) (j ∷ ns) ≡ true
less_is_not_behind i j ms ns less = or_left (nat_lt i j) ((i == j) && is_not_behind ms ns) (lt-ltb i j less)

most_is_not_behind : (i j : ℕ) → i ≤ j → is_not_behind (i ∷ []) (j ∷ []) ≡ true
most_is_not_behind i j most =
    elim (cases_order i j) [
      | inl same ↦ ap (λ k. is_not_behind (i ∷ []) (k ∷ [])) (sym same) ∙ same_is_not_behind i [] [] refl
      | inr (inl less) ↦ less_is_not_behind i j [] [] less
      | inr (inr more) ↦ absurd (omega (arith, more, most))
    ]

-- what stands slot by slot is in order where it is at each slot
by_slot_ordered : {X : Type 0} (before : X → X → Bool) (P : ℕ → X → Type 0) (has : ℕ → Slot → List X)
    → ((m n : ℕ) (a b : X) → m < n → P m a → P n b → before a b ≡ true) → (i : ℕ) (slots : List Slot)
    → ((k : ℕ) (slot : Slot) → slice_get slots k ≡ Some slot
    → Each (P (i + k)) (has (i + k) slot) × (are_in_order before (has (i + k) slot) ≡ true))
    → are_in_order before (by_slot has i slots) ≡ true
by_slot_ordered before P has across i [] own = refl
by_slot_ordered {X = X} before P has across i (slot ∷ slots) own =
    let first = own zero slot refl in
    let one : Each (P i) (has i slot) = subst (λ m. Each (P m) (has m slot)) (no_more i) first.0 in
    let rest = by_slot has (suc i) slots in
    order_joined before (has i slot) rest (subst (λ m. are_in_order before (has m slot) ≡ true) (no_more i) first.1)
    (by_slot_ordered before P has across (suc i) slots
    (λ k s e. subst (λ m. Each (P m) (has m s) × (are_in_order before (has m s) ≡ true)) (one_more i k)
    (own (suc k) s e)))
    (each_more (P i) (λ a. list_all (before a) rest ≡ true)
    (λ a p. each_passes (λ b. (n : ℕ) × (suc i ≤ n) × P n b) (before a)
    (λ b q. let low = q.1 in across i q.0 a b (omega (arith, low)) p q.2) rest
    (each_by_slot (λ b. (n : ℕ) × (suc i ≤ n) × P n b) has (suc i) slots
    (λ k s e. each_more (P (suc i + k)) (λ b. (n : ℕ) × (suc i ≤ n) × P n b) (λ b q. (suc i + k, omega arith, q))
    (has (suc i + k) s)
    (subst (λ m. Each (P m) (has m s)) (one_more i k) (own (suc k) s e).0)))) (has i slot) one)
  where
    no_more : (n : ℕ) → n + 0 ≡ n
    no_more n = omega arith

    one_more : (n k : ℕ) → n + suc k ≡ suc n + k
    one_more n k = omega arith

-- the place of a draft of a precondition
abbrev guard_draft_place : Plan → GuardDraft → List ℕ
guard_draft_place plan d = number_or_zero (slot_of_named plan d.at) ∷ class_place plan d.at
    ∷ value_place plan d.at d.value ∷ []

abbrev guards_follow : Plan → GuardDraft → GuardDraft → Bool
guards_follow plan a b = is_not_behind (guard_draft_place plan a) (guard_draft_place plan b)

-- of which slot it is, at which place of its class and of its list
record IsGuardAt (plan : Plan) (i : ℕ) (d : GuardDraft) : Type 0 where
  slot : number_or_zero (slot_of_named plan d.at) ≡ i

record IsGuardOf (plan : Plan) (i k : ℕ) (d : GuardDraft) : Type 0 where
  slot : number_or_zero (slot_of_named plan d.at) ≡ i
  class : class_place plan d.at ≡ k

record IsGuardFor (plan : Plan) (i k v : ℕ) (d : GuardDraft) : Type 0 where
  slot : number_or_zero (slot_of_named plan d.at) ≡ i
  class : class_place plan d.at ≡ k
  value : value_place plan d.at d.value ≡ v

guard_at : (plan : Plan) (i k v : ℕ) (d : GuardDraft) → IsGuardFor plan i k v d
    → guard_draft_place plan d ≡ i ∷ k ∷ v ∷ []
guard_at plan i k v d h =
    ap (λ n. n ∷ class_place plan d.at ∷ value_place plan d.at d.value ∷ []) h.slot
    ∙ ap (λ n. i ∷ n ∷ value_place plan d.at d.value ∷ []) h.class ∙ ap (λ n. i ∷ k ∷ n ∷ []) h.value

guards_by_slot : (plan : Plan) (m n : ℕ) (a b : GuardDraft) → m < n → IsGuardAt plan m a → IsGuardAt plan n b
    → guards_follow plan a b ≡ true
guards_by_slot plan m n a b less h k =
    ap (λ x. is_not_behind (x ∷ class_place plan a.at ∷ value_place plan a.at a.value ∷ []) (guard_draft_place plan b))
    h.slot
    ∙ ap (λ x. is_not_behind (m ∷ class_place plan a.at ∷ value_place plan a.at a.value ∷ [])
    (x ∷ class_place plan b.at ∷ value_place plan b.at b.value ∷ [])) k.slot
    ∙ less_is_not_behind m n (class_place plan a.at ∷ value_place plan a.at a.value ∷ [])
    (class_place plan b.at ∷ value_place plan b.at b.value ∷ []) less

guards_by_class : (plan : Plan) (i m n : ℕ) (a b : GuardDraft) → m < n → IsGuardOf plan i m a → IsGuardOf plan i n b
    → guards_follow plan a b ≡ true
guards_by_class plan i m n a b less h k =
    ap (λ x. is_not_behind (x ∷ class_place plan a.at ∷ value_place plan a.at a.value ∷ []) (guard_draft_place plan b))
    h.slot
    ∙ ap (λ x. is_not_behind (i ∷ class_place plan a.at ∷ value_place plan a.at a.value ∷ [])
    (x ∷ class_place plan b.at ∷ value_place plan b.at b.value ∷ [])) k.slot
    ∙ same_is_not_behind i (class_place plan a.at ∷ value_place plan a.at a.value ∷ [])
    (class_place plan b.at ∷ value_place plan b.at b.value ∷ [])
    (ap (λ x. is_not_behind (x ∷ value_place plan a.at a.value ∷ [])
    (class_place plan b.at ∷ value_place plan b.at b.value ∷ [])) h.class
    ∙ ap (λ x. is_not_behind (m ∷ value_place plan a.at a.value ∷ []) (x ∷ value_place plan b.at b.value ∷ [])) k.class
    ∙ less_is_not_behind m n (value_place plan a.at a.value ∷ []) (value_place plan b.at b.value ∷ []) less)

guards_by_value : (plan : Plan) (i k v w : ℕ) (a b : GuardDraft) → v ≤ w → IsGuardFor plan i k v a
    → IsGuardFor plan i k w b
    → guards_follow plan a b ≡ true
guards_by_value plan i k v w a b most h j =
    ap (λ p. is_not_behind p (guard_draft_place plan b)) (guard_at plan i k v a h)
    ∙ ap (is_not_behind (i ∷ k ∷ v ∷ [])) (guard_at plan i k w b j)
    ∙ same_is_not_behind i (k ∷ v ∷ []) (k ∷ w ∷ [])
    (same_is_not_behind k (v ∷ []) (w ∷ []) (most_is_not_behind v w most))

-- what is of one place is in order
one_place : {X : Type 0} (before : X → X → Bool) (P : X → Type 0) → ((a b : X) → P a → P b → before a b ≡ true)
    → (xs : List X)
    → Each P xs → are_in_order before xs ≡ true
one_place before P of [] h = refl
one_place before P of (x ∷ xs) h =
    and_from (list_all (before x) xs) (are_in_order before xs) (each_passes P (before x) (λ b k. of x b h.0 k) xs h.1)
    (one_place before P of xs h.1)

-- the preconditions of a characteristic of a slot
among_for : (plan : Plan) (layout : Layout) (site : Site) (i k v : ℕ) (n : Named) (value : Option Piece)
    → number_or_zero (slot_of_named plan n) ≡ i → class_place plan n ≡ k → value_place plan n value ≡ v
    → (uses : List ℕ)
    → Each (IsGuardFor plan i k v) (guards_among layout site n value uses)
among_for plan layout site i k v n value slot class place uses =
    each_mapped (IsGuardFor plan i k v)
    (λ asked. record { at = n; value = value; choice = choice_at layout site asked })
    (preconditions_among layout.model uses)
    (each_of_all (λ asked. IsGuardFor plan i k v
    (record { at = n; value = value; choice = choice_at layout site asked }))
    (λ asked. record { slot = slot; class = class; value = place }) (preconditions_among layout.model uses))

record AreGuards (plan : Plan) (i k : ℕ) (drafts : List GuardDraft) : Type 0 where
  own : Each (IsGuardOf plan i k) drafts
  order : are_in_order (guards_follow plan) drafts ≡ true

weaken_guard : (plan : Plan) (i k v : ℕ) (xs : List GuardDraft) → Each (IsGuardFor plan i k v) xs
    → Each (IsGuardOf plan i k) xs
weaken_guard plan i k v xs h =
    each_more (IsGuardFor plan i k v) (IsGuardOf plan i k) (λ d p. record { slot = p.slot; class = p.class }) xs h

guards_are : (model : Model) (tables : List VariantTable) (plan : Plan) → IsPlanOf model tables plan → KeepsValues model
    → HasOnce plan
    → (i c k : ℕ) (n : Named) → IsNamedAt plan i c n → class_place plan n ≡ k
    → (site : Site) (o : Option Characteristic)
    → slice_get model.characteristics c ≡ o → AreGuards plan i k (guards_of (layout_of model) site n o)
guards_are model tables plan is keeps once i c k n named class site None e = record { own = tt; order = refl }
guards_are model tables plan is keeps once i c k n named class site (Some x) e = record {
  own = each_joined (IsGuardOf plan i k) first rest (weaken_guard plan i k 0 first own_first)
      (each_flat (IsGuardOf plan i k) of_entry (entries_of x.values)
      (each_of_all (λ e. Each (IsGuardOf plan i k) (of_entry e))
      (λ e. weaken_guard plan i k (suc (place e)) (of_entry e) (own_entry e))
      (entries_of x.values)));
  order = order_joined (guards_follow plan) first rest
      (one_place (guards_follow plan) (IsGuardFor plan i k 0)
      (λ a b h j. guards_by_value plan i k 0 0 a b (omega arith) h j) first own_first)
      (flat_ordered (guards_follow plan) (λ a b. nat_lt (place a) (place b)) (λ e. IsGuardFor plan i k (suc (place e)))
      of_entry
      (λ a b s t less h j. let below = ltb-true (place a) (place b) less in
      guards_by_value plan i k (suc (place a)) (suc (place b)) s t (omega (arith, below)) h j) (entries_of x.values)
      (each_of_all (λ e. Each (IsGuardFor plan i k (suc (place e))) (of_entry e)) own_entry (entries_of x.values))
      (each_of_all (λ e. are_in_order (guards_follow plan) (of_entry e) ≡ true)
      (λ e. one_place (guards_follow plan) (IsGuardFor plan i k (suc (place e)))
      (λ a b h j. guards_by_value plan i k (suc (place e)) (suc (place e)) a b (omega arith) h j) (of_entry e)
      (own_entry e))
      (entries_of x.values))
      (entries_ordered x.values (values_proper model tables plan is keeps once c x e)))
      (each_more (IsGuardFor plan i k 0) (λ a. list_all (guards_follow plan a) rest ≡ true)
      (λ a h. each_passes (λ b. (v : ℕ) × IsGuardFor plan i k v b) (guards_follow plan a)
      (λ b j. guards_by_value plan i k 0 j.0 a b (omega arith) h j.1) rest
      (each_flat (λ b. (v : ℕ) × IsGuardFor plan i k v b) of_entry (entries_of x.values)
      (each_of_all (λ e. Each (λ b. (v : ℕ) × IsGuardFor plan i k v b) (of_entry e))
      (λ e. each_more (IsGuardFor plan i k (suc (place e))) (λ b. (v : ℕ) × IsGuardFor plan i k v b)
      (λ b h. (suc (place e), h))
      (of_entry e) (own_entry e)) (entries_of x.values)))) first own_first);
}
  where
    place : Entry → ℕ
    place e = list_place (Some (all_values x.values)) e.piece

    slot : number_or_zero (slot_of_named plan n) ≡ i
    slot = ap number_or_zero named.slot

    of_entry : Entry → List GuardDraft
    of_entry entry = guards_among (layout_of model) site n (Some entry.piece) entry.uses

    first : List GuardDraft
    first = guards_among (layout_of model) site n None x.uses

    rest : List GuardDraft
    rest = flat_map of_entry (entries_of x.values)

    own_first : Each (IsGuardFor plan i k 0) (guards_among (layout_of model) site n None x.uses)
    own_first = among_for plan (layout_of model) site i k 0 n None (ap number_or_zero named.slot) class refl x.uses

    own_entry : (entry : Entry)
        → Each (IsGuardFor plan i k (suc (list_place (Some (all_values x.values)) entry.piece)))
        (guards_among (layout_of model) site n (Some entry.piece) entry.uses)
    own_entry entry =
        among_for plan (layout_of model) site i k (suc (list_place (Some (all_values x.values)) entry.piece)) n
        (Some entry.piece)
        (ap number_or_zero named.slot) class
        (ap (λ l. suc (list_place l entry.piece)) (list_is model tables plan is keeps i c n named x e)) entry.uses

-- what is made of each member of a class, in class order
members_ordered : {X : Type 0} (before : X → X → Bool) (P : ℕ → X → Type 0)
    → ((m n : ℕ) (a b : X) → m < n → P m a → P n b → before a b ≡ true) → (f : ℕ → List X) (members : List ℕ)
    → are_apart (λ c d. c == d) members ≡ true
    → ((c : ℕ) → list_any (λ d. c == d) members ≡ true
    → Each (P (position_or_len (λ d. d == c) members)) (f c) × (are_in_order before (f c) ≡ true))
    → are_in_order before (flat_map f members) ≡ true
members_ordered before P across f members apart own =
    let place : ℕ → ℕ = λ c. position_or_len (λ d. d == c) members in
    let all = each_among (λ c d. c == d) (λ c. eq-eqb c c refl) members in
    flat_ordered before (λ c d. nat_lt (place c) (place d)) (λ c. P (place c)) f
    (λ c d a b less h k. across (place c) (place d) a b (ltb-true (place c) (place d) less) h k) members
    (each_more (λ c. list_any (λ d. c == d) members ≡ true) (λ c. Each (P (place c)) (f c)) (λ c h. (own c h).0) members
    all)
    (each_more (λ c. list_any (λ d. c == d) members ≡ true) (λ c. are_in_order before (f c) ≡ true) (λ c h. (own c h).1)
    members all)
    (places_ordered (λ c d. d == c) members (λ c. eq-eqb c c refl)
    (λ c d e. eq-eqb c d (sym (eqb-true d c e))) (turned members apart))
  where
    same_turned : (y x : ℕ) → (y == x) ≡ (x == y)
    same_turned y x =
        elim (cases_order y x) [
          | inl same ↦ eq-eqb y x same ∙ sym (eq-eqb x y (sym same))
          | inr (inl less) ↦ ne_eqb y x (λ e. omega (arith, e, less)) ∙ sym (ne_eqb x y (λ e. omega (arith, e, less)))
          | inr (inr more) ↦ ne_eqb y x (λ e. omega (arith, e, more)) ∙ sym (ne_eqb x y (λ e. omega (arith, e, more)))
        ]

    any_turned : (x : ℕ) (xs : List ℕ) → list_any (λ d. d == x) xs ≡ list_any (λ d. x == d) xs
    any_turned x [] = refl
    any_turned x (y ∷ xs) = ap (λ b. b || list_any (λ d. d == x) xs) (same_turned y x)
        ∙ ap (λ b. (x == y) || b) (any_turned x xs)

    turned : (xs : List ℕ) → are_apart (λ c d. c == d) xs ≡ true → are_apart (λ c d. d == c) xs ≡ true
    turned [] h = refl
    turned (x ∷ xs) h =
        let parts = and_parts (not (list_any (λ d. x == d) xs)) (are_apart (λ c d. c == d) xs) h in
        and_from (not (list_any (λ d. d == x) xs)) (are_apart (λ c d. d == c) xs)
        (ap not (any_turned x xs) ∙ parts.0) (turned xs parts.1)

all_guards_ordered : (model : Model) (tables : List VariantTable) (plan : Plan) → IsPlanOf model tables plan
    → KeepsValues model
    → HasOnce plan → are_in_order (guards_follow plan) (guard_drafts (layout_of model)) ≡ true
all_guards_ordered model tables plan is keeps once =
    by_slot_ordered (guards_follow plan) (IsGuardAt plan) (guards_at (layout_of model)) (guards_by_slot plan) 0
    (slots_of model)
    (λ k slot e. (own k slot e, order k slot e))
  where
    made : ℕ → Slot → ℕ → List GuardDraft
    made i slot c =
        guards_of (layout_of model) (characteristic_site (layout_of model) i slot) (named_at (layout_of model) i c)
        (slice_get model.characteristics c)

    no_front : (k : ℕ) → k ≡ 0 + k
    no_front k = omega arith

    one : (k : ℕ) (slot : Slot) → slice_get (slots_of model) k ≡ Some slot → (c : ℕ)
        → list_any (λ d. c == d) (members_of model slot.object) ≡ true
        → AreGuards plan (0 + k) (position_or_len (λ d. d == c) (members_of model slot.object)) (made (0 + k) slot c)
    one k slot e c member =
        let named = named_at_slot model tables plan is k slot e c member in
        guards_are model tables plan is keeps once (0 + k) c
        (position_or_len (λ d. d == c) (members_of model slot.object))
        (named_at (layout_of model) (0 + k) c) named
        (named_place model tables plan is (0 + k) slot
        (subst (λ m. slice_get (slots_of model) m ≡ Some slot) (no_front k) e) c
        (named_at (layout_of model) (0 + k) c) named)
        (characteristic_site (layout_of model) (0 + k) slot) (slice_get model.characteristics c) refl

    own : (k : ℕ) (slot : Slot) → slice_get (slots_of model) k ≡ Some slot
        → Each (IsGuardAt plan (0 + k)) (guards_at (layout_of model) (0 + k) slot)
    own k slot e =
        each_flat (IsGuardAt plan (0 + k)) (made (0 + k) slot) (members_of model slot.object)
        (each_more (λ c. list_any (λ d. c == d) (members_of model slot.object) ≡ true)
        (λ c. Each (IsGuardAt plan (0 + k)) (made (0 + k) slot c))
        (λ c h. each_more (IsGuardOf plan (0 + k) (position_or_len (λ d. d == c) (members_of model slot.object)))
        (IsGuardAt plan (0 + k))
        (λ d p. record { slot = p.slot }) (made (0 + k) slot c) (one k slot e c h).own) (members_of model slot.object)
        (each_among (λ c d. c == d) (λ c. eq-eqb c c refl) (members_of model slot.object)))

    order : (k : ℕ) (slot : Slot) → slice_get (slots_of model) k ≡ Some slot
        → are_in_order (guards_follow plan) (guards_at (layout_of model) (0 + k) slot) ≡ true
    order k slot e =
        members_ordered (guards_follow plan) (IsGuardOf plan (0 + k)) (guards_by_class plan (0 + k)) (made (0 + k) slot)
        (members_of model slot.object) (members_apart model tables plan is once slot.object)
        (λ c h. ((one k slot e c h).own, (one k slot e c h).order))

-- the place of a draft of a procedure
abbrev draft_place : Plan → ProcedureDraft → List ℕ
draft_place plan d = d.slot ∷ trigger_place plan d.trigger

abbrev procedures_follow : Plan → ProcedureDraft → ProcedureDraft → Bool
procedures_follow plan a b = is_not_behind (draft_place plan a) (draft_place plan b)

record IsProcedureAt (plan : Plan) (i : ℕ) (d : ProcedureDraft) : Type 0 where
  slot : d.slot ≡ i
  listed : trigger_listed plan i d.trigger ≡ true

-- one of a slot alone, and one of a value
record IsAnyway (plan : Plan) (i : ℕ) (d : ProcedureDraft) : Type 0 where
  slot : d.slot ≡ i
  trigger : d.trigger ≡ Anyway

record IsOfClass (plan : Plan) (i k : ℕ) (d : ProcedureDraft) : Type 0 where
  slot : d.slot ≡ i
  value : ℕ
  trigger : trigger_place plan d.trigger ≡ k ∷ value ∷ []
  listed : trigger_listed plan i d.trigger ≡ true

record IsOfValue (plan : Plan) (i k v : ℕ) (d : ProcedureDraft) : Type 0 where
  slot : d.slot ≡ i
  trigger : trigger_place plan d.trigger ≡ k ∷ v ∷ []
  listed : trigger_listed plan i d.trigger ≡ true

procedures_by_slot : (plan : Plan) (m n : ℕ) (a b : ProcedureDraft) → m < n → IsProcedureAt plan m a
    → IsProcedureAt plan n b
    → procedures_follow plan a b ≡ true
procedures_by_slot plan m n a b less h k =
    let low = h.slot in
    let high = k.slot in
    less_is_not_behind a.slot b.slot (trigger_place plan a.trigger) (trigger_place plan b.trigger)
    (omega (arith, less, low, high))

anyway_first : (plan : Plan) (i : ℕ) (a b : ProcedureDraft) → IsAnyway plan i a → b.slot ≡ i
    → procedures_follow plan a b ≡ true
anyway_first plan i a b h slot =
    ap (λ t. is_not_behind (a.slot ∷ trigger_place plan t) (draft_place plan b)) h.trigger
    ∙ ap (λ n. is_not_behind (n ∷ []) (draft_place plan b)) (h.slot ∙ sym slot)
    ∙ same_is_not_behind b.slot [] (trigger_place plan b.trigger) refl

procedures_by_class : (plan : Plan) (i m n : ℕ) (a b : ProcedureDraft) → m < n → IsOfClass plan i m a
    → IsOfClass plan i n b
    → procedures_follow plan a b ≡ true
procedures_by_class plan i m n a b less h k =
    ap (λ x. is_not_behind (x ∷ trigger_place plan a.trigger) (draft_place plan b)) (h.slot ∙ sym k.slot)
    ∙ same_is_not_behind b.slot (trigger_place plan a.trigger) (trigger_place plan b.trigger)
    (ap (λ x. is_not_behind x (trigger_place plan b.trigger)) h.trigger
    ∙ ap (is_not_behind (m ∷ h.value ∷ [])) k.trigger
    ∙ less_is_not_behind m n (h.value ∷ []) (k.value ∷ []) less)

procedures_by_value : (plan : Plan) (i k v w : ℕ) (a b : ProcedureDraft) → v ≤ w → IsOfValue plan i k v a
    → IsOfValue plan i k w b
    → procedures_follow plan a b ≡ true
procedures_by_value plan i k v w a b most h j =
    ap (λ x. is_not_behind (x ∷ trigger_place plan a.trigger) (draft_place plan b)) (h.slot ∙ sym j.slot)
    ∙ same_is_not_behind b.slot (trigger_place plan a.trigger) (trigger_place plan b.trigger)
    (ap (λ x. is_not_behind x (trigger_place plan b.trigger)) h.trigger ∙ ap (is_not_behind (k ∷ v ∷ [])) j.trigger
    ∙ same_is_not_behind k (v ∷ []) (w ∷ []) (most_is_not_behind v w most))

-- those among what is used at a place have its slot and trigger
among_each : (P : ProcedureDraft → Type 0) (layout : Layout) (i : ℕ) (slot : Slot) (trigger : Trigger)
    → ((d : ℕ) (statements : List Statement) → P (procedure_at layout i slot trigger d statements)) → (uses : List ℕ)
    → Each P (procedures_among layout i slot trigger uses)
among_each P layout i slot trigger of [] = tt
among_each P layout i slot trigger of (d ∷ uses) =
    by (statements_in (tree_of layout.model d)) (among_each P layout i slot trigger of uses)
  where
    by : (o : Option (List Statement)) → Each P (procedures_among layout i slot trigger uses)
        → Each P (cons_option (option_map (procedure_at layout i slot trigger d) o)
        (procedures_among layout i slot trigger uses))
    by None more = more
    by (Some statements) more = (of d statements, more)

-- of a set, a piece is one text
abbrev IsTextOf : Named → Piece → Type 0
IsTextOf (Var v) piece = Unit {0}
IsTextOf (Set s) piece = OneText (text_in_piece piece) ≡ piece

-- where the procedure of a value stands
pub value_triggers : (plan : Plan) (i k : ℕ) (n : Named) (piece : Piece) → IsTextOf n piece
    → class_place plan n ≡ k → is_number i (slot_of_named plan n) ≡ true → is_entry (list_at plan n) piece ≡ true
    → (trigger_place plan (trigger_of n piece) ≡ k ∷ list_place (list_at plan n) piece ∷ [])
    × (trigger_listed plan i (trigger_of n piece) ≡ true)
value_triggers plan i k (Var v) piece one class slot entry = (
  ap (λ m. m ∷ list_place (list_at plan (Var v)) piece ∷ []) class,
  and_from (is_number i (slot_of_named plan (Var v))) (is_entry (list_at plan (Var v)) piece) slot entry,
)
value_triggers plan i k (Set s) piece one class slot entry = (
  ap (λ m. m ∷ list_place (list_at plan (Set s)) (OneText (text_in_piece piece)) ∷ []) class
      ∙ ap (λ p. k ∷ list_place (list_at plan (Set s)) p ∷ []) one,
  and_from (is_number i (slot_of_named plan (Set s))) (is_entry (list_at plan (Set s)) (OneText (text_in_piece piece)))
      slot
      (ap (is_entry (list_at plan (Set s))) one ∙ entry),
)

record AreProcedures (plan : Plan) (i k : ℕ) (drafts : List ProcedureDraft) : Type 0 where
  own : Each (IsOfClass plan i k) drafts
  order : are_in_order (procedures_follow plan) drafts ≡ true

text_of : (layout : Layout) (i c : ℕ) (x : Characteristic) → slice_get layout.model.characteristics c ≡ Some x
    → Each (λ e. IsTextOf (named_at layout i c) e.piece) (entries_of x.values)
text_of layout i c x e = by (is_multiple layout.model c) refl
  where
    by : (b : Bool) → is_multiple layout.model c ≡ b
        → Each (λ e. IsTextOf (if b then Set (set_number layout.sets i c) else Var (var_number layout.vars i c))
        e.piece) (entries_of x.values)
    by true h = are_one_text x.values (sym (ap multiple_in e) ∙ h)
    by false h = each_of_all (λ e. Unit {0}) (λ e. tt) (entries_of x.values)

procedures_are : (model : Model) (tables : List VariantTable) (plan : Plan) → IsPlanOf model tables plan
    → KeepsValues model
    → HasOnce plan → (i c k : ℕ) (slot : Slot) → IsNamedAt plan i c (named_at (layout_of model) i c)
    → class_place plan (named_at (layout_of model) i c) ≡ k → (o : Option Characteristic)
    → slice_get model.characteristics c ≡ o
    → AreProcedures plan i k
    (flat_map (λ entry. procedures_among (layout_of model) i slot
    (trigger_of (named_at (layout_of model) i c) entry.piece)
    entry.uses) (entries_in o))
procedures_are model tables plan is keeps once i c k slot named class None e = record { own = tt; order = refl }
procedures_are model tables plan is keeps once i c k slot named class (Some x) e = record {
  own = each_flat (IsOfClass plan i k) of_entry (entries_of x.values)
      (each_more (λ e. Each (IsOfValue plan i k (place e)) (of_entry e)) (λ e. Each (IsOfClass plan i k) (of_entry e))
      (λ e h. each_more (IsOfValue plan i k (place e)) (IsOfClass plan i k)
      (λ d p. record { slot = p.slot; value = place e; trigger = p.trigger; listed = p.listed }) (of_entry e) h)
      (entries_of x.values) own_entries);
  order = flat_ordered (procedures_follow plan) (λ a b. nat_lt (place a) (place b)) (λ e. IsOfValue plan i k (place e))
      of_entry
      (λ a b s t less h j. let below = ltb-true (place a) (place b) less in
      procedures_by_value plan i k (place a) (place b) s t (omega (arith, below)) h j) (entries_of x.values) own_entries
      (each_more (λ e. Each (IsOfValue plan i k (place e)) (of_entry e))
      (λ e. are_in_order (procedures_follow plan) (of_entry e) ≡ true)
      (λ e h. one_place (procedures_follow plan) (IsOfValue plan i k (place e))
      (λ a b p q. procedures_by_value plan i k (place e) (place e) a b (omega arith) p q) (of_entry e) h)
      (entries_of x.values) own_entries)
      (entries_ordered x.values (values_proper model tables plan is keeps once c x e));
}
  where
    n : Named
    n = named_at (layout_of model) i c

    place : Entry → ℕ
    place e = list_place (Some (all_values x.values)) e.piece

    of_entry : Entry → List ProcedureDraft
    of_entry entry = procedures_among (layout_of model) i slot (trigger_of (named_at (layout_of model) i c) entry.piece)
        entry.uses

    own_entries : Each (λ entry. Each (IsOfValue plan i k (list_place (Some (all_values x.values)) entry.piece))
        (procedures_among (layout_of model) i slot (trigger_of (named_at (layout_of model) i c) entry.piece)
        entry.uses)) (entries_of x.values)
    own_entries =
        let list = list_is model tables plan is keeps i c (named_at (layout_of model) i c) named x e in
        each_more
        (λ entry. (IsTextOf (named_at (layout_of model) i c) entry.piece)
        × (is_entry (Some (all_values x.values)) entry.piece ≡ true))
        (λ entry. Each (IsOfValue plan i k (list_place (Some (all_values x.values)) entry.piece))
        (procedures_among (layout_of model) i slot (trigger_of (named_at (layout_of model) i c) entry.piece)
        entry.uses))
        (λ entry h.
        let both = value_triggers plan i k (named_at (layout_of model) i c) entry.piece h.0 class
        (ap (is_number i) named.slot ∙ eq-eqb i i refl) (ap (λ l. is_entry l entry.piece) list ∙ h.1) in
        among_each (IsOfValue plan i k (list_place (Some (all_values x.values)) entry.piece)) (layout_of model) i slot
        (trigger_of (named_at (layout_of model) i c) entry.piece)
        (λ d statements. record {
          slot = refl;
          trigger = both.0 ∙ ap (λ l. k ∷ list_place l entry.piece ∷ []) list;
          listed = both.1;
        }) entry.uses)
        (entries_of x.values)
        (each_both (λ entry. IsTextOf (named_at (layout_of model) i c) entry.piece)
        (λ entry. is_entry (Some (all_values x.values)) entry.piece ≡ true) (entries_of x.values)
        (text_of (layout_of model) i c x e) (entries_listed x.values))

record AreAtSlot (plan : Plan) (i : ℕ) (drafts : List ProcedureDraft) : Type 0 where
  own : Each (IsProcedureAt plan i) drafts
  order : are_in_order (procedures_follow plan) drafts ≡ true

at_slot_are : (model : Model) (tables : List VariantTable) (plan : Plan) → IsPlanOf model tables plan
    → KeepsValues model
    → HasOnce plan → (k : ℕ) (slot : Slot) → slice_get (slots_of model) k ≡ Some slot
    → AreAtSlot plan (0 + k) (procedures_at (layout_of model) (0 + k) slot)
at_slot_are model tables plan is keeps once k slot e = record {
  own = each_joined (IsProcedureAt plan i) profile (own ++ values)
      (weaken profile (anyway (profile_in (slice_get model.objects slot.object))))
      (each_joined (IsProcedureAt plan i) own values (weaken own all_own) values_at);
  order = order_joined (procedures_follow plan) profile (own ++ values)
      (of_anyway profile (anyway (profile_in (slice_get model.objects slot.object))))
      (order_joined (procedures_follow plan) own values (of_anyway own all_own)
      (members_ordered (procedures_follow plan) (IsOfClass plan i) (procedures_by_class plan i)
      (value_procedures layout i slot) members
      (members_apart model tables plan is once slot.object) (λ c h. ((one c h).own, (one c h).order)))
      (before_slot own values all_own values_at))
      (before_slot profile (own ++ values) (anyway (profile_in (slice_get model.objects slot.object)))
      (each_joined (IsProcedureAt plan i) own values (weaken own all_own) values_at));
}
  where
    layout : Layout
    layout = layout_of model

    i : ℕ
    i = 0 + k

    members : List ℕ
    members = members_of model slot.object

    profile : List ProcedureDraft
    profile = procedures_among (layout_of model) (0 + k) slot Anyway (profile_in (slice_get model.objects slot.object))

    own : List ProcedureDraft
    own =
        flat_map (λ c. procedures_among (layout_of model) (0 + k) slot Anyway
        (uses_in (slice_get model.characteristics c)))
        (members_of model slot.object)

    values : List ProcedureDraft
    values = flat_map (value_procedures (layout_of model) (0 + k) slot) (members_of model slot.object)

    anyway : (uses : List ℕ)
        → Each (IsAnyway plan (0 + k)) (procedures_among (layout_of model) (0 + k) slot Anyway uses)
    anyway uses =
        among_each (IsAnyway plan (0 + k)) (layout_of model) (0 + k) slot Anyway
        (λ d statements. record { slot = refl; trigger = refl }) uses

    all_own : Each (IsAnyway plan (0 + k))
        (flat_map (λ c. procedures_among (layout_of model) (0 + k) slot Anyway
        (uses_in (slice_get model.characteristics c)))
        (members_of model slot.object))
    all_own =
        each_flat (IsAnyway plan (0 + k))
        (λ c. procedures_among (layout_of model) (0 + k) slot Anyway (uses_in (slice_get model.characteristics c)))
        (members_of model slot.object)
        (each_of_all (λ c. Each (IsAnyway plan (0 + k))
        (procedures_among (layout_of model) (0 + k) slot Anyway (uses_in (slice_get model.characteristics c))))
        (λ c. anyway (uses_in (slice_get model.characteristics c))) (members_of model slot.object))

    no_front : (m : ℕ) → m ≡ 0 + m
    no_front m = omega arith

    one : (c : ℕ) → list_any (λ d. c == d) (members_of model slot.object) ≡ true
        → AreProcedures plan (0 + k) (position_or_len (λ d. d == c) (members_of model slot.object))
        (value_procedures (layout_of model) (0 + k) slot c)
    one c member =
        let named = named_at_slot model tables plan is k slot e c member in
        procedures_are model tables plan is keeps once (0 + k) c
        (position_or_len (λ d. d == c) (members_of model slot.object)) slot named
        (named_place model tables plan is (0 + k) slot
        (subst (λ m. slice_get (slots_of model) m ≡ Some slot) (no_front k) e) c
        (named_at (layout_of model) (0 + k) c) named)
        (slice_get model.characteristics c) refl

    values_at : Each (IsProcedureAt plan (0 + k))
        (flat_map (value_procedures (layout_of model) (0 + k) slot) (members_of model slot.object))
    values_at =
        each_flat (IsProcedureAt plan (0 + k)) (value_procedures (layout_of model) (0 + k) slot)
        (members_of model slot.object)
        (each_more (λ c. list_any (λ d. c == d) (members_of model slot.object) ≡ true)
        (λ c. Each (IsProcedureAt plan (0 + k)) (value_procedures (layout_of model) (0 + k) slot c))
        (λ c h. each_more (IsOfClass plan (0 + k) (position_or_len (λ d. d == c) (members_of model slot.object)))
        (IsProcedureAt plan (0 + k))
        (λ d p. record { slot = p.slot; listed = p.listed }) (value_procedures (layout_of model) (0 + k) slot c)
        (one c h).own)
        (members_of model slot.object)
        (each_among (λ c d. c == d) (λ c. eq-eqb c c refl) (members_of model slot.object)))

    weaken : (xs : List ProcedureDraft) → Each (IsAnyway plan (0 + k)) xs → Each (IsProcedureAt plan (0 + k)) xs
    weaken xs h =
        each_more (IsAnyway plan (0 + k)) (IsProcedureAt plan (0 + k))
        (λ d p. record { slot = p.slot; listed = ap (trigger_listed plan (0 + k)) p.trigger }) xs h

    of_anyway : (xs : List ProcedureDraft) → Each (IsAnyway plan (0 + k)) xs
        → are_in_order (procedures_follow plan) xs ≡ true
    of_anyway xs h =
        one_place (procedures_follow plan) (IsAnyway plan (0 + k)) (λ a b p q. anyway_first plan (0 + k) a b p q.slot)
        xs h

    before_slot : (xs ys : List ProcedureDraft) → Each (IsAnyway plan (0 + k)) xs → Each (IsProcedureAt plan (0 + k)) ys
        → Each (λ a. list_all (procedures_follow plan a) ys ≡ true) xs
    before_slot xs ys h j =
        each_more (IsAnyway plan (0 + k)) (λ a. list_all (procedures_follow plan a) ys ≡ true)
        (λ a p. each_passes (IsProcedureAt plan (0 + k)) (procedures_follow plan a)
        (λ b q. anyway_first plan (0 + k) a b p q.slot) ys j) xs h

pub has_places : (model : Model) (tables : List VariantTable) (plan : Plan) → IsPlanOf model tables plan
    → KeepsValues model
    → HasOnce plan → HasPlaces plan
has_places model tables plan is keeps once =
    let layout = layout_of model in
    let drafts = drafts_of (layout_of model) in
    record {
      triggers = each_passes (λ x. trigger_listed plan x.slot x.trigger ≡ true)
          (λ x. trigger_listed plan x.slot x.trigger) (λ x h. h)
          plan.procedures
          (subst (Each (λ x. trigger_listed plan x.slot x.trigger ≡ true)) (sym is.procedures)
          (numbered_made procedure_brings procedure_from (λ d. trigger_listed plan d.slot d.trigger ≡ true)
          (λ x. trigger_listed plan x.slot x.trigger ≡ true) (λ c t d h. h) (procedures_begin drafts)
          (procedure_terms_begin drafts)
          drafts.procedures
          (each_by_slot (λ d. trigger_listed plan d.slot d.trigger ≡ true) (procedures_at layout) 0 (slots_of model)
          (λ k slot e. each_more (IsProcedureAt plan (0 + k)) (λ d. trigger_listed plan d.slot d.trigger ≡ true)
          (λ d p. ap (λ m. trigger_listed plan m d.trigger) p.slot ∙ p.listed) (procedures_at layout (0 + k) slot)
          (at_slot_are model tables plan is keeps once k slot e).own))));
      procedures_in_order = ap (are_in_order (are_procedures_in_order plan)) is.procedures
          ∙ numbered_ordered procedure_brings procedure_from (are_procedures_in_order plan) (procedures_follow plan)
          (λ c t m n a b e. e)
          (procedures_begin drafts) (procedure_terms_begin drafts) drafts.procedures
          (by_slot_ordered (procedures_follow plan) (IsProcedureAt plan) (procedures_at layout)
          (procedures_by_slot plan) 0 (slots_of model)
          (λ k slot e. let all = at_slot_are model tables plan is keeps once k slot e in (all.own, all.order)));
      guards_in_order = ap (are_in_order (are_guards_in_order plan)) is.guards
          ∙ numbered_ordered guard_brings guard_from (are_guards_in_order plan) (guards_follow plan)
          (λ c t m n a b e. e)
          (guards_begin drafts) 0 drafts.guards (all_guards_ordered model tables plan is keeps once);
    }
