-- Slots of one object have its lines, and its operations, alike.
use Rattle.std.proofs.Common.{◌≡◌, ℕ, ◌+◌, ◌<◌, Bool, true, false, cond, not, ◌&&◌, ◌||◌, List, [], ◌∷◌, length, map}
use Rattle.std.proofs.Common.{Some, refl, sym, ap, ◌∙◌, arith}
use Rattle.std.specs.Prelude.{◌==◌, slice_get}
use Rattle.std.specs.List.{filter}
use Rattle.std.proofs.lemmas.Bool.{and_from, eq-eqb, eqb-true}
use Rattle.vc_value.specs.Words.{same_bytes}
use Rattle.vc_model_parts.specs.declared.parts.BillItem.{BillItem}
use Rattle.vc_model_parts.specs.declared.parts.Model.{Model}
use Rattle.vc_model_parts.specs.declared.parts.Operation as parts
use Rattle.vc_plan.specs.Alike as alike
use Rattle.vc_plan.specs.Alike.{are_of_one_object, have_one_bill, have_one_routing, lines_at, operations_at, same_lines}
use Rattle.vc_plan.specs.Alike.{same_operations}
use Rattle.vc_plan.specs.Domains.{numbers_below}
use Rattle.vc_plan.specs.Orders.{same_number_if}
use Rattle.vc_plan.specs.Valid.{each_slot}
use Rattle.vc_plan.specs.declared.plans.Line.{Line}
use Rattle.vc_plan.specs.declared.plans.Operation.{Operation}
use Rattle.vc_plan.specs.declared.plans.Plan.{Plan}
use Rattle.vc_plan.specs.declared.plans.Slot.{Slot}
use Rattle.vc_table.specs.declared.table.VariantTable.{VariantTable}
use Rattle.vc_compile_plan.specs.Layouts.{layout_of}
use Rattle.vc_compile_plan.specs.Numbering.{drafts_of, item_brings, line_from, line_terms_begin, lines_begin, numbered}
use Rattle.vc_compile_plan.specs.Numbering.{operation_from, operation_terms_begin, operations_begin}
use Rattle.vc_compile_plan.specs.PlanOf.{IsPlanOf}
use Rattle.vc_compile_plan.specs.Shown.{ItemDraft, line_at, line_drafts, material_of, operation_at, operation_drafts}
use Rattle.vc_compile_plan.specs.Shown.{operations_in}
use Rattle.vc_compile_plan.specs.Slots.{bill_of, slots_of}
use Rattle.vc_compile_valid.specs.Slots.{HasOneBill}
use Rattle.vc_compile_valid.proofs.EachLaws.{each_mapped, each_of_all, each_passes}
use Rattle.vc_compile_valid.proofs.LineNumberLaws.{lines_of_slot}
use Rattle.vc_compile_valid.proofs.LineSlotLaws.{same_itself}
use Rattle.vc_compile_valid.proofs.ListLaws.{there}
use Rattle.vc_compile_valid.proofs.SlotwiseLaws.{at_slot, below_count}

-- what lines, and operations, of slots of one object have alike
record Face : Type 0 where
  number : ℕ
  word : List ℕ
  unit : List ℕ

abbrev line_face : Line → Face
line_face line = record { number = line.item; word = line.material; unit = line.unit }

abbrev operation_face : Operation → Face
operation_face operation = record { number = operation.number; word = operation.name; unit = operation.unit }

abbrev draft_face : ItemDraft → Face
draft_face draft = record { number = draft.number; word = draft.word; unit = draft.unit }

abbrev item_face : Model → BillItem → Face
item_face model item = record { number = item.item; word = material_of model item.component; unit = item.unit }

abbrev own_face : parts.Operation → Face
own_face operation = record { number = operation.number; word = operation.centre; unit = operation.unit }

same_word : (a b : List ℕ) → a ≡ b → same_bytes a b ≡ true
same_word a b e = ap (λ x. same_bytes x b) e ∙ same_itself b

lines_same : (ls ms : List Line) → map line_face ls ≡ map line_face ms → same_lines ls ms ≡ true
lines_same [] [] e = refl
lines_same [] (m ∷ ms) e = absurd (cc)
lines_same (l ∷ ls) [] e = absurd (cc)
lines_same (l ∷ ls) (m ∷ ms) e =
    let first : line_face l ≡ line_face m = cc in
    let rest : map line_face ls ≡ map line_face ms = cc in
    and_from ((l.item == m.item) && (same_bytes l.material m.material && same_bytes l.unit m.unit)) (same_lines ls ms)
    (and_from (l.item == m.item) (same_bytes l.material m.material && same_bytes l.unit m.unit)
    (eq-eqb l.item m.item (ap (λ f. f.number) first))
    (and_from (same_bytes l.material m.material) (same_bytes l.unit m.unit)
    (same_word l.material m.material (ap (λ f. f.word) first)) (same_word l.unit m.unit (ap (λ f. f.unit) first))))
    (lines_same ls ms rest)

operations_same : (ls ms : List Operation) → map operation_face ls ≡ map operation_face ms
    → same_operations ls ms ≡ true
operations_same [] [] e = refl
operations_same [] (m ∷ ms) e = absurd (cc)
operations_same (l ∷ ls) [] e = absurd (cc)
operations_same (l ∷ ls) (m ∷ ms) e =
    let first : operation_face l ≡ operation_face m = cc in
    let rest : map operation_face ls ≡ map operation_face ms = cc in
    and_from ((l.number == m.number) && (same_bytes l.name m.name && same_bytes l.unit m.unit)) (same_operations ls ms)
    (and_from (l.number == m.number) (same_bytes l.name m.name && same_bytes l.unit m.unit)
    (eq-eqb l.number m.number (ap (λ f. f.number) first))
    (and_from (same_bytes l.name m.name) (same_bytes l.unit m.unit)
    (same_word l.name m.name (ap (λ f. f.word) first)) (same_word l.unit m.unit (ap (λ f. f.unit) first))))
    (operations_same ls ms rest)

-- of what is left of numbered things, what their drafts have
faces_left : {X : Type 0} (make : ℕ → ℕ → ItemDraft → X) (test : X → Bool) (face : X → Face) (i : ℕ)
    → ((c t : ℕ) (d : ItemDraft) → test (make c t d) ≡ (d.slot == i))
    → ((c t : ℕ) (d : ItemDraft) → face (make c t d) ≡ draft_face d) → (c t : ℕ) (drafts : List ItemDraft)
    → map face (filter test (numbered item_brings make c t drafts)) ≡ map draft_face (filter (λ d. d.slot == i) drafts)
faces_left make test face i same faced c t [] = refl
faces_left {X = X} make test face i same faced c t (d ∷ drafts) =
    by (test (make c t d)) (d.slot == i) (same c t d)
    (faces_left make test face i same faced (c + length (item_brings.conditions d)) (t + length (item_brings.terms d))
    drafts)
  where
    rest : List X
    rest = numbered item_brings make (c + length (item_brings.conditions d)) (t + length (item_brings.terms d)) drafts

    by : (a b : Bool) → a ≡ b → map face (filter test rest) ≡ map draft_face (filter (λ d. d.slot == i) drafts)
        → map face (cond a (make c t d ∷ filter test rest) (filter test rest))
        ≡ map draft_face (cond b (d ∷ filter (λ d. d.slot == i) drafts) (filter (λ d. d.slot == i) drafts))
    by true true e more =
        ap (λ f. f ∷ map face (filter test rest)) (faced c t d) ∙ ap (λ fs. draft_face d ∷ fs) more
    by false false e more = more
    by true false e more = absurd (cc)
    by false true e more = absurd (cc)

no_front : (i : ℕ) → i ≡ 0 + i
no_front i = omega arith

item_faces : (model : Model) (i : ℕ) (slot : Slot) (items : List BillItem)
    → map draft_face (map (line_at (layout_of model) i slot) items) ≡ map (item_face model) items
item_faces model i slot [] = refl
item_faces model i slot (x ∷ items) = ap (λ fs. item_face model x ∷ fs) (item_faces model i slot items)

own_faces : (model : Model) (i : ℕ) (slot : Slot) (operations : List parts.Operation)
    → map draft_face (map (operation_at (layout_of model) i slot) operations) ≡ map own_face operations
own_faces model i slot [] = refl
own_faces model i slot (x ∷ operations) = ap (λ fs. own_face x ∷ fs) (own_faces model i slot operations)

line_faces : (model : Model) (tables : List VariantTable) (plan : Plan) → IsPlanOf model tables plan
    → (i : ℕ) (slot : Slot)
    → slice_get (slots_of model) i ≡ Some slot
    → map line_face (lines_at plan i) ≡ map (item_face model) (bill_of model slot.object)
line_faces model tables plan is i slot e =
    let drafts = drafts_of (layout_of model) in
    ap (λ ls. map line_face (filter (λ line. line.slot == i) ls)) is.lines
    ∙ faces_left line_from (λ line. line.slot == i) line_face i (λ c t d. refl) (λ c t d. refl) (lines_begin drafts)
    (line_terms_begin drafts) (line_drafts (layout_of model))
    ∙ ap (map draft_face) (at_slot (λ d. d.slot) (lines_of_slot model)
    (λ i slot. each_mapped (λ x. x.slot ≡ i) (line_at (layout_of model) i slot) (bill_of model slot.object)
    (each_of_all (λ x. i ≡ i) (λ x. refl) (bill_of model slot.object))) 0 (slots_of model) i slot e i (no_front i))
    ∙ item_faces model i slot (bill_of model slot.object)

operation_faces : (model : Model) (tables : List VariantTable) (plan : Plan) → IsPlanOf model tables plan
    → (i : ℕ) (slot : Slot)
    → slice_get (slots_of model) i ≡ Some slot
    → map operation_face (operations_at plan i) ≡ map own_face (operations_in (slice_get model.objects slot.object))
operation_faces model tables plan is i slot e =
    let drafts = drafts_of (layout_of model) in
    ap (λ ls. map operation_face (filter (λ operation. operation.slot == i) ls)) is.operations
    ∙ faces_left operation_from (λ operation. operation.slot == i) operation_face i (λ c t d. refl) (λ c t d. refl)
    (operations_begin drafts) (operation_terms_begin drafts) (operation_drafts (layout_of model))
    ∙ ap (map draft_face) (at_slot (λ d. d.slot)
    (λ i slot. map (operation_at (layout_of model) i slot) (operations_in (slice_get model.objects slot.object)))
    (λ i slot. each_mapped (λ x. x.slot ≡ i) (operation_at (layout_of model) i slot)
    (operations_in (slice_get model.objects slot.object))
    (each_of_all (λ x. i ≡ i) (λ x. refl) (operations_in (slice_get model.objects slot.object)))) 0 (slots_of model) i
    slot e i
    (no_front i))
    ∙ own_faces model i slot (operations_in (slice_get model.objects slot.object))

-- slots of one object
same_object : (model : Model) (tables : List VariantTable) (plan : Plan) → IsPlanOf model tables plan
    → (i j : ℕ) (a b : Slot)
    → slice_get (slots_of model) i ≡ Some a → slice_get (slots_of model) j ≡ Some b → are_of_one_object plan i j ≡ true
    → a.object ≡ b.object
same_object model tables plan is i j a b e f h =
    eqb-true a.object b.object
    (sym (ap (λ ss. same_number_if (alike.object_in (slice_get ss i)) (alike.object_in (slice_get ss j))) is.slots
    ∙ ap (λ o. same_number_if (alike.object_in o) (alike.object_in (slice_get (slots_of model) j))) e
    ∙ ap (λ o. same_number_if (Some a.object) (alike.object_in o)) f) ∙ h)

one_bill : (model : Model) (tables : List VariantTable) (plan : Plan) → IsPlanOf model tables plan
    → (i j : ℕ) (a b : Slot)
    → slice_get (slots_of model) i ≡ Some a → slice_get (slots_of model) j ≡ Some b → have_one_bill plan i j ≡ true
one_bill model tables plan is i j a b e f = by (are_of_one_object plan i j) refl
  where
    by : (t : Bool) → are_of_one_object plan i j ≡ t → (not t || same_lines (lines_at plan i) (lines_at plan j)) ≡ true
    by false h = refl
    by true h =
        lines_same (lines_at plan i) (lines_at plan j)
        (line_faces model tables plan is i a e
        ∙ ap (λ o. map (item_face model) (bill_of model o)) (same_object model tables plan is i j a b e f h)
        ∙ sym (line_faces model tables plan is j b f))

one_routing : (model : Model) (tables : List VariantTable) (plan : Plan) → IsPlanOf model tables plan
    → (i j : ℕ) (a b : Slot)
    → slice_get (slots_of model) i ≡ Some a → slice_get (slots_of model) j ≡ Some b → have_one_routing plan i j ≡ true
one_routing model tables plan is i j a b e f = by (are_of_one_object plan i j) refl
  where
    by : (t : Bool) → are_of_one_object plan i j ≡ t
        → (not t || same_operations (operations_at plan i) (operations_at plan j)) ≡ true
    by false h = refl
    by true h =
        operations_same (operations_at plan i) (operations_at plan j)
        (operation_faces model tables plan is i a e
        ∙ ap (λ o. map own_face (operations_in (slice_get model.objects o)))
        (same_object model tables plan is i j a b e f h)
        ∙ sym (operation_faces model tables plan is j b f))

pub has_one_bill : (model : Model) (tables : List VariantTable) (plan : Plan) → IsPlanOf model tables plan
    → HasOneBill plan
has_one_bill model tables plan is = record {
  one_bill = pairs (have_one_bill plan) (one_bill model tables plan is);
  one_routing = pairs (have_one_routing plan) (one_routing model tables plan is);
}
  where
    size : length plan.slots ≡ length (slots_of model)
    size = ap length is.slots

    pairs : (test : ℕ → ℕ → Bool)
        → ((i j : ℕ) (a b : Slot) → slice_get (slots_of model) i ≡ Some a → slice_get (slots_of model) j ≡ Some b
        → test i j ≡ true)
        → each_slot plan (λ i. each_slot plan (test i)) ≡ true
    pairs test of =
        each_passes (λ i. i < 0 + length plan.slots) (λ i. each_slot plan (test i))
        (λ i h. each_passes (λ j. j < 0 + length plan.slots) (test i)
        (λ j k. let a = there (slots_of model) i (omega (arith, h, size)) in
        let b = there (slots_of model) j (omega (arith, k, size)) in of i j a.0 b.0 a.1 b.1)
        (numbers_below (length plan.slots)) (below_count 0 (length plan.slots)))
        (numbers_below (length plan.slots)) (below_count 0 (length plan.slots))
