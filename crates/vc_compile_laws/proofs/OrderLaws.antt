-- Lines and operations of a plan are in the order of slots, and at a slot in that of its object.
use Rattle.std.proofs.Common.{◌≡◌, ℕ, suc, ◌+◌, ◌≤◌, Bool, true, ◌&&◌, ◌||◌, nat_lt, List, [], ◌∷◌, map}
use Rattle.std.proofs.Common.{Option, Some, None, refl, sym, ap, ◌∙◌, arith}
use Rattle.std.specs.Prelude.{◌==◌, slice_get}
use Rattle.std.specs.List.{list_all}
use Rattle.std.proofs.lemmas.Bool.{and_from, and_parts, eq-eqb, lt-ltb, or_left, or_right}
use Rattle.std.proofs.lemmas.List.Folds.{list_all-map}
use Rattle.vc_model_parts.specs.declared.parts.Model.{Model}
use Rattle.vc_model_parts.specs.declared.parts.Object.{Object}
use Rattle.vc_model_drafts.specs.Seen.{seen_item, seen_model, seen_object, seen_operation}
use Rattle.vc_model_laws.specs.Keeps.{Keeps}
use Rattle.vc_model_laws.proofs.SpelledLaws.{spelled_keeps_all}
use Rattle.vc_model_laws.proofs.TextsLaws.{passes_at}
use Rattle.vc_plan.specs.Orders.{are_in_order}
use Rattle.vc_plan.specs.Valid.{is_line_before, is_operation_before}
use Rattle.vc_plan.specs.declared.plans.Slot.{Slot}
use Rattle.vc_compile_plan.specs.Layouts.{layout_of}
use Rattle.vc_compile_plan.specs.Numbering.{drafts_of, item_brings, line_from, line_terms_begin, lines_begin}
use Rattle.vc_compile_plan.specs.Numbering.{operation_from, operation_terms_begin, operations_begin}
use Rattle.vc_compile_plan.specs.Shown.{ItemDraft, line_at, operation_at, operations_in}
use Rattle.vc_compile_plan.specs.Slots.{bill_in, bill_of, slots_of}
use Rattle.vc_compile_plan.specs.Variables.{by_slot}
use Rattle.vc_compile_laws.specs.Compiles.{CompiledKeeps}
use Rattle.vc_compile_laws.specs.Orders.{HasOrders}
use Rattle.vc_compile_valid.proofs.EachLaws.{Each, each_by_slot, each_mapped, each_more, each_of_all, each_passes}
use Rattle.vc_compile_valid.proofs.EachLaws.{order_joined}
use Rattle.vc_compile_valid.proofs.OrderedLaws.{numbered_ordered, order_mapped}

-- by slot, and at one slot by number
abbrev is_before : ItemDraft → ItemDraft → Bool
is_before a b = nat_lt a.slot b.slot || ((a.slot == b.slot) && nat_lt a.number b.number)

order_within : (i : ℕ) (xs : List ItemDraft) → Each (λ x. x.slot ≡ i) xs
    → are_in_order (λ a b. nat_lt a.number b.number) xs ≡ true → are_in_order is_before xs ≡ true
order_within i [] own h = refl
order_within i (x ∷ xs) own h =
    let parts
    = and_parts (list_all (λ b. nat_lt x.number b.number) xs) (are_in_order (λ a b. nat_lt a.number b.number) xs)
    h in
    and_from (list_all (is_before x) xs) (are_in_order is_before xs)
    (behind xs own.1 parts.0) (order_within i xs own.1 parts.1)
  where
    behind : (ys : List ItemDraft) → Each (λ y. y.slot ≡ i) ys → list_all (λ b. nat_lt x.number b.number) ys ≡ true
        → list_all (is_before x) ys ≡ true
    behind [] own h = refl
    behind (y ∷ ys) others h =
        let parts = and_parts (nat_lt x.number y.number) (list_all (λ b. nat_lt x.number b.number) ys) h in
        and_from (is_before x y) (list_all (is_before x) ys)
        (or_right (nat_lt x.slot y.slot) ((x.slot == y.slot) && nat_lt x.number y.number)
        (and_from (x.slot == y.slot) (nat_lt x.number y.number) (eq-eqb x.slot y.slot (own.0 ∙ sym others.0)) parts.0))
        (behind ys others.1 parts.1)

slots_ordered : (has : ℕ → Slot → List ItemDraft) → ((i : ℕ) (slot : Slot) → Each (λ x. x.slot ≡ i) (has i slot))
    → ((i : ℕ) (slot : Slot) → are_in_order (λ a b. nat_lt a.number b.number) (has i slot) ≡ true)
    → (i : ℕ) (slots : List Slot) → are_in_order is_before (by_slot has i slots) ≡ true
slots_ordered has own ordered i [] = refl
slots_ordered has own ordered i (slot ∷ slots) =
    let rest = by_slot has (suc i) slots in
    let above : Each (λ y. suc i ≤ y.slot) rest =
    each_by_slot (λ y. suc i ≤ y.slot) has (suc i) slots
    (λ k s e. each_more (λ y. y.slot ≡ suc i + k) (λ y. suc i ≤ y.slot) (λ y f. omega (arith, f)) (has (suc i + k) s)
    (own (suc i + k) s)) in
    order_joined is_before (has i slot) rest (order_within i (has i slot) (own i slot) (ordered i slot))
    (slots_ordered has own ordered (suc i) slots)
    (each_more (λ x. x.slot ≡ i) (λ x. list_all (is_before x) rest ≡ true)
    (λ x e. each_passes (λ y. suc i ≤ y.slot) (is_before x)
    (λ y f. or_left (nat_lt x.slot y.slot) ((x.slot == y.slot) && nat_lt x.number y.number)
    (lt-ltb x.slot y.slot (omega (arith, e, f)))) rest above) (has i slot) (own i slot))

bill_ordered : (model : Model) → Keeps (seen_model model) → (o : ℕ)
    → are_in_order (λ a b. nat_lt a.item b.item) (bill_of model o) ≡ true
bill_ordered model keeps o = by (slice_get model.objects o) refl
  where
    by : (x : Option Object) → slice_get model.objects o ≡ x
        → are_in_order (λ a b. nat_lt a.item b.item) (bill_in x) ≡ true
    by None e = refl
    by (Some object) e =
        sym (order_mapped (λ a b. nat_lt a.item b.item) seen_item object.bill)
        ∙ passes_at (λ x. are_in_order (λ a b. nat_lt a.item b.item) (map seen_item x.bill)) model.objects o object
        (sym (list_all-map (λ x. are_in_order (λ a b. nat_lt a.item b.item) x.bill) seen_object model.objects)
        ∙ keeps.lists.items) e

routing_ordered : (model : Model) → Keeps (seen_model model) → (o : ℕ)
    → are_in_order (λ a b. nat_lt a.number b.number) (operations_in (slice_get model.objects o)) ≡ true
routing_ordered model keeps o = by (slice_get model.objects o) refl
  where
    by : (x : Option Object) → slice_get model.objects o ≡ x
        → are_in_order (λ a b. nat_lt a.number b.number) (operations_in x) ≡ true
    by None e = refl
    by (Some object) e =
        sym (order_mapped (λ a b. nat_lt a.number b.number) seen_operation object.operations)
        ∙ passes_at (λ x. are_in_order (λ a b. nat_lt a.number b.number) (map seen_operation x.operations))
        model.objects o object
        (sym (list_all-map (λ x. are_in_order (λ a b. nat_lt a.number b.number) x.operations) seen_object model.objects)
        ∙ keeps.lists.operations) e

pub has_orders : CompiledKeeps HasOrders
has_orders text model tables plan spells read compiles =
    let keeps = spelled_keeps_all text (seen_model model) spells in
    let layout = layout_of model in
    let drafts = drafts_of (layout_of model) in
    record {
      lines_in_order = ap (are_in_order is_line_before) compiles.is_its.lines
          ∙ numbered_ordered item_brings line_from is_line_before is_before (λ c t m n a b e. e) (lines_begin drafts)
          (line_terms_begin drafts) drafts.lines
          (slots_ordered (λ i slot. map (line_at layout i slot) (bill_of model slot.object))
          (λ i slot. each_mapped (λ x. x.slot ≡ i) (line_at layout i slot) (bill_of model slot.object)
          (each_of_all (λ x. i ≡ i) (λ x. refl) (bill_of model slot.object)))
          (λ i slot. order_mapped (λ a b. nat_lt a.number b.number) (line_at layout i slot) (bill_of model slot.object)
          ∙ bill_ordered model keeps slot.object) 0 (slots_of model));
      operations_in_order = ap (are_in_order is_operation_before) compiles.is_its.operations
          ∙ numbered_ordered item_brings operation_from is_operation_before is_before (λ c t m n a b e. e)
          (operations_begin drafts)
          (operation_terms_begin drafts) drafts.operations
          (slots_ordered (λ i slot. map (operation_at layout i slot)
          (operations_in (slice_get model.objects slot.object)))
          (λ i slot. each_mapped (λ x. x.slot ≡ i) (operation_at layout i slot)
          (operations_in (slice_get model.objects slot.object))
          (each_of_all (λ x. i ≡ i) (λ x. refl) (operations_in (slice_get model.objects slot.object))))
          (λ i slot. order_mapped (λ a b. nat_lt a.number b.number) (operation_at layout i slot)
          (operations_in (slice_get model.objects slot.object)) ∙ routing_ordered model keeps slot.object) 0
          (slots_of model));
    }
