-- A bill has of each instance the lines that it takes.
use Rattle.std.proofs.Common.{◌≡◌, ℕ, zero, suc, ◌+◌, ◌<◌, Bool, true, false, not, cond, List, [], ◌∷◌, ◌++◌, length}
use Rattle.std.proofs.Common.{refl, sym, ap, ◌∙◌, arith}
use Rattle.std.proofs.lemmas.Bool.{and_parts, eqb-true, eqb-false, eq-eqb}
use Rattle.std.specs.Prelude.{Option, None, Some, is_some, slice_get, ◌==◌}
use Rattle.std.specs.List.{filter, flat_map, list_any}
use Rattle.vc_plan.specs.declared.plans.Line.{Line}
use Rattle.vc_plan.specs.declared.plans.Plan.{Plan}
use Rattle.vc_plan.specs.declared.plans.Slot.{Slot}
use Rattle.vc_plan.specs.declared.shown.BillLine.{BillLine}
use Rattle.vc_plan.specs.Bills.{bill_line, bill_of, component_of, lines_of}
use Rattle.vc_plan.specs.Orders.{is_number}
use Rattle.vc_plan.specs.Readings.{Reading}
use Rattle.vc_plan.specs.Seen.{Seen}
use Rattle.vc_plan.specs.Slots.{depth_in, is_below, is_root}
use Rattle.vc_plan.specs.StageLaws.{BillsHaveTakenLines, IsUpward, taken_lines}
use Rattle.vc_plan.specs.Valid.{IsValid}
use Rattle.vc_plan.specs.Writes.{depth_of}
use Rattle.vc_plan.proofs.StageProofs.BillLists.{gives_left, flat_of_map, met_once}
use Rattle.vc_plan.proofs.StageProofs.Brought.{brings, brought, is_of, is_own_row, own, own_left, own_rows}
use Rattle.vc_plan.proofs.StageProofs.Items.{components_are_taken_where_here, items_ascend}
use Rattle.vc_plan.proofs.StageProofs.Owners.{IsOwned, component_is, owned, stands, taken_line}
use Rattle.vc_plan.proofs.StageProofs.Parents.{all_behind, parents_come_first}

flat_pointwise : (f g : ℕ → List BillLine) → ((n : ℕ) → f n ≡ g n) → (ns : List ℕ) → flat_map f ns ≡ flat_map g ns
flat_pointwise f g same [] = refl
flat_pointwise f g same (n ∷ ns) =
    ap (λ rows. rows ++ flat_map f ns) (same n) ∙ ap (λ rows. g n ++ rows) (flat_pointwise f g same ns)

get_there : (xs : List Slot) (i : ℕ) → i < length xs → (x : Slot) × (slice_get xs i ≡ Some x)
get_there [] i h = absurd (omega arith)
get_there (x ∷ xs) zero h = (x, refl)
get_there (x ∷ xs) (suc i) h = get_there xs i (omega arith)

same_slot : (x y : Slot) → Some x ≡ Some y → x ≡ y
same_slot x y e = cc

same_line : (x y : Line) → Some x ≡ Some y → x ≡ y
same_line x y e = cc

module _ (plan : Plan) (valid : IsValid plan) (seen : Seen) (reading : Reading) where
  -- a row whose slot isn't the parent brings none
  of_parent_alone : (i p : ℕ) (slot : Slot) → slice_get plan.slots i ≡ Some slot → IsOwned plan i p slot
      → (row : BillLine)
      → is_own_row plan valid seen reading row ≡ true → is_of plan valid seen reading p row ≡ false
      → brings plan valid seen reading i row ≡ []
  of_parent_alone i p slot at mine row takes other = of_component (component_of plan row.line) refl
    where
      not_here : component_of plan row.line ≡ Some i → ⊥
      not_here is =
          let found = stands plan row.line i is in
          let same = same_slot found.slot slot (sym found.at ∙ at) in
          let for_line : slot.line ≡ row.line = sym (ap (λ s. s.line) same) ∙ found.for_line in
          let of_row = taken_line plan seen reading row.slot row.line takes in
          let lines
          = same_line of_row.line mine.line (sym of_row.at ∙ ap (slice_get plan.lines) (sym for_line) ∙ mine.at) in
          eqb-false row.slot p other (sym of_row.own ∙ ap (λ l. l.slot) lines ∙ mine.owner)

      step : (j : ℕ) → component_of plan row.line ≡ Some j → (b : Bool) → (i == j) ≡ b
          → cond b (own plan valid seen reading i (row.level + 1)) [] ≡ []
      step j is true e = absurd (not_here (is ∙ ap Some (sym (eqb-true i j e))))
      step j is false e = refl

      of_component : (o : Option ℕ) → component_of plan row.line ≡ o
          → cond (is_number i o) (own plan valid seen reading i (row.level + 1)) [] ≡ []
      of_component None e = refl
      of_component (Some j) e = step j e (i == j) refl

  -- the slot is the component of its line alone
  is_component : (i p : ℕ) (slot : Slot) → slice_get plan.slots i ≡ Some slot → slot.parent ≡ Some p
      → IsOwned plan i p slot
      → (n : ℕ)
      → is_number i (component_of plan n) ≡ (n == slot.line)
  is_component i p slot at parent mine n = step (n == slot.line) refl
    where
      other_line : (n == slot.line) ≡ false → component_of plan n ≡ Some i → ⊥
      other_line other is =
          let found = stands plan n i is in
          let same = same_slot found.slot slot (sym found.at ∙ at) in
          eqb-false n slot.line other (sym found.for_line ∙ ap (λ s. s.line) same)

      of_number : (n == slot.line) ≡ false → (j : ℕ) → component_of plan n ≡ Some j → (b : Bool) → (i == j) ≡ b
          → b ≡ false
      of_number other j is true e = absurd (other_line other (is ∙ ap Some (sym (eqb-true i j e))))
      of_number other j is false e = refl

      of_component : (n == slot.line) ≡ false → (o : Option ℕ) → component_of plan n ≡ o → is_number i o ≡ false
      of_component other None e = refl
      of_component other (Some j) e = of_number other j e (i == j) refl

      step : (b : Bool) → (n == slot.line) ≡ b → is_number i (component_of plan n) ≡ b
      step true e =
          ap (λ m. is_number i (component_of plan m)) (eqb-true n slot.line e)
          ∙ ap (is_number i) (component_is plan valid i p slot at parent mine.line mine.at) ∙ eq-eqb i i refl
      step false e = of_component e (component_of plan n) refl

  -- what a slot takes, by what its parent does
  inherited : IsUpward plan seen → (i p : ℕ) (slot : Slot) → slice_get plan.slots (suc i) ≡ Some slot
      → slot.parent ≡ Some p
      → suc i < length plan.slots → IsOwned plan (suc i) p slot
      → filter (λ row. row.slot == p) (bill_of plan seen reading) ≡ taken_lines plan seen reading p
      → filter (λ row. row.slot == suc i) (bill_of plan seen reading) ≡ taken_lines plan seen reading (suc i)
  inherited upward i p slot at parent there mine before =
      brought plan valid seen reading (suc i) there (length plan.slots) 1 0 (λ same. omega (arith, same)) (omega arith)
      (omega arith)
      ∙ gives_left (brings plan valid seen reading (suc i)) (is_of plan valid seen reading p)
      (is_own_row plan valid seen reading)
      (of_parent_alone (suc i) p slot at mine) (bill_of plan seen reading)
      (own_rows plan valid seen reading (length plan.slots) 1 0)
      ∙ ap (flat_map (brings plan valid seen reading (suc i))) before
      ∙ of_parent (seen.here p) refl
    where
      depth : depth_of plan (suc i) ≡ depth_of plan p + 1
      depth = ap depth_in at ∙ mine.deeper

      here : list_any (λ k. k == slot.line) (lines_of plan seen reading p) ≡ seen.here (suc i)
      here =
          sym (ap (λ q. list_any (λ k. k == slot.line) (lines_of plan seen reading q)) mine.owner)
          ∙ components_are_taken_where_here plan seen reading slot.line (suc i) mine.line mine.at
          (component_is plan valid (suc i) p slot at parent mine.line mine.at)

      not_here : seen.here p ≡ false → (b : Bool) → seen.here (suc i) ≡ b
          → [] ≡ cond b (own plan valid seen reading (suc i) (depth_of plan (suc i) + 1)) []
      not_here absent true is = absurd (differ (sym absent ∙ upward.parents (suc i) p slot at parent is))
        where
          differ : false ≡ true → ⊥
          differ e = cc
      not_here absent false is = refl

      of_parent : (b : Bool) → seen.here p ≡ b
          → flat_map (brings plan valid seen reading (suc i))
          (cond b (own plan valid seen reading p (depth_of plan p + 1)) [])
          ≡ cond (seen.here (suc i)) (own plan valid seen reading (suc i) (depth_of plan (suc i) + 1)) []
      of_parent false absent = not_here absent (seen.here (suc i)) refl
      of_parent true is =
          flat_of_map (brings plan valid seen reading (suc i)) (bill_line plan reading (depth_of plan p + 1) p)
          (lines_of plan seen reading p)
          ∙ flat_pointwise
          (λ n. brings plan valid seen reading (suc i) (bill_line plan reading (depth_of plan p + 1) p n))
          (λ n. cond (n == slot.line) (own plan valid seen reading (suc i) (depth_of plan p + 1 + 1)) [])
          (λ n. ap (λ b. cond b (own plan valid seen reading (suc i) (depth_of plan p + 1 + 1)) [])
          (is_component (suc i) p slot at parent mine n))
          (lines_of plan seen reading p)
          ∙ met_once slot.line (own plan valid seen reading (suc i) (depth_of plan p + 1 + 1))
          (lines_of plan seen reading p)
          (items_ascend plan seen reading p)
          ∙ ap (λ b. cond b (own plan valid seen reading (suc i) (depth_of plan p + 1 + 1)) []) here
          ∙ ap (λ d. cond (seen.here (suc i)) (own plan valid seen reading (suc i) (d + 1)) []) (sym depth)

  -- the slots before this one
  below_all : IsUpward plan seen → (k i : ℕ) → i < k → i < length plan.slots
      → filter (λ row. row.slot == i) (bill_of plan seen reading) ≡ taken_lines plan seen reading i
  below_all upward zero i less there = absurd (omega arith)
  below_all upward (suc k) zero less there =
      own_left plan valid seen reading 0 1 there
      ∙ ap (λ d. own plan valid seen reading 0 (d + 1)) (sym shallow)
      ∙ ap (λ b. cond b (own plan valid seen reading 0 (depth_of plan 0 + 1)) []) (sym upward.root)
    where
      of_slot : (o : Option Slot) → is_root o ≡ true → depth_in o ≡ 0
      of_slot None e = absurd (cc)
      of_slot (Some slot) e = eqb-true slot.depth 0 (and_parts (not (is_some slot.parent)) (slot.depth == 0) e).1

      shallow : depth_of plan 0 ≡ 0
      shallow = of_slot (slice_get plan.slots 0) valid.root
  below_all upward (suc k) (suc i) less there =
      let slot = get_there plan.slots (suc i) there in
      of_parent slot.0 slot.1 slot.0.parent refl
      (λ p lower. below_all upward k p (omega (arith, lower)) (omega (arith, lower)))
    where
      of_parent : (slot : Slot) → slice_get plan.slots (suc i) ≡ Some slot → (o : Option ℕ) → slot.parent ≡ o
          → ((p : ℕ) → p < suc i
          → filter (λ row. row.slot == p) (bill_of plan seen reading) ≡ taken_lines plan seen reading p)
          → filter (λ row. row.slot == suc i) (bill_of plan seen reading) ≡ taken_lines plan seen reading (suc i)
      of_parent slot at None parent earlier =
          absurd (differ (sym (ap (is_below plan slot) parent)
          ∙ all_behind (λ s. is_below plan s s.parent) plan.slots i slot valid.below at))
        where
          differ : false ≡ true → ⊥
          differ e = cc
      of_parent slot at (Some p) parent earlier =
          inherited upward i p slot at parent there (owned plan valid i p slot at parent)
          (earlier p (parents_come_first plan valid (suc i) p slot at parent))

pub bills_have_taken_lines : BillsHaveTakenLines
bills_have_taken_lines plan valid seen reading upward i there =
    below_all plan valid seen reading upward (i + 1) i (omega arith) there
