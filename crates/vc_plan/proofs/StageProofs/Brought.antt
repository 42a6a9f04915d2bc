-- In a bill the lines of a slot come with the line that it stands for.
use Rattle.std.proofs.Common.{◌≡◌, ℕ, zero, suc, ◌+◌, ◌<◌, ◌≤◌, Bool, true, false, not, cond, ◌&&◌, List, [], ◌∷◌, ◌++◌}
use Rattle.std.proofs.Common.{length, map, refl, sym, ap, subst, ◌∙◌, arith}
use Rattle.std.proofs.lemmas.Bool.{and_parts, and_from, eqb-true, eqb-false, eq-eqb, le-leb, leb-true}
use Rattle.std.proofs.lemmas.List.{append-nil}
use Rattle.std.specs.Prelude.{Option, None, Some, nat_le, ◌==◌}
use Rattle.std.specs.List.{filter, flat_map, list_all}
use Rattle.vc_plan.specs.declared.plans.Plan.{Plan}
use Rattle.vc_plan.specs.declared.shown.BillLine.{BillLine}
use Rattle.vc_plan.specs.Bills.{below, bill_from, bill_line, component_of, lines_of, own_bill}
use Rattle.vc_plan.specs.Orders.{is_number}
use Rattle.vc_plan.specs.Readings.{Reading}
use Rattle.vc_plan.specs.Seen.{Seen}
use Rattle.vc_plan.specs.Valid.{IsValid}
use Rattle.vc_plan.proofs.PlanLaws.Lists.{all_grows}
use Rattle.vc_plan.proofs.StageProofs.BillLists.{all_flat, none_passes, heads_pass, parts_same, gives_none}
use Rattle.vc_plan.proofs.StageProofs.Levels.{one_bill, part_after, taken, takes}
use Rattle.vc_plan.proofs.StageProofs.OwnLines.{chunk}

-- what all of a list pass by two tests
both_pass : (p q : BillLine → Bool) (rows : List BillLine) → list_all p rows ≡ true → list_all q rows ≡ true
    → list_all (λ row. p row && q row) rows ≡ true
both_pass p q [] h k = refl
both_pass p q (row ∷ rows) h k =
    let first = and_parts (p row) (list_all p rows) h in
    let second = and_parts (q row) (list_all q rows) k in
    and_from (p row && q row) (list_all (λ r. p r && q r) rows) (and_from (p row) (q row) first.0 second.0)
    (both_pass p q rows first.1 second.1)

part_passes : (p : BillLine → Bool) (bill : ℕ → List BillLine) (o : Option ℕ)
    → ((j : ℕ) → o ≡ Some j → list_all p (bill j) ≡ true) → list_all p (below bill o) ≡ true
part_passes p bill None each = refl
part_passes p bill (Some j) each = each j refl

other_slot : (i s : ℕ) → i < s → not (s == i) ≡ true
other_slot i s less = step (s == i) refl
  where
    step : (b : Bool) → (s == i) ≡ b → not b ≡ true
    step true is = let same = eqb-true s i is in absurd (omega (arith, same, less))
    step false is = refl

module _ (plan : Plan) (valid : IsValid plan) (seen : Seen) (reading : Reading) where
  -- each row of a bill is a line that its slot takes, and its slot isn't before the bill's
  abbrev pub is_own_row : BillLine → Bool
  is_own_row row = takes plan seen reading row.slot row.line

  pub own_rows : (levels level k : ℕ) → list_all is_own_row (bill_from plan seen reading levels level k) ≡ true
  own_rows zero level k = refl
  own_rows (suc levels) level k =
      let bill = bill_from plan seen reading levels (level + 1) in
      all_flat is_own_row (takes plan seen reading k) (chunk plan reading bill level k)
      (λ n h. and_from (takes plan seen reading k n) (list_all is_own_row (below bill (component_of plan n))) h
      (part_passes is_own_row bill (component_of plan n) (λ j is. own_rows levels (level + 1) j)))
      (lines_of plan seen reading k) (taken plan seen reading k)

  abbrev is_from : ℕ → BillLine → Bool
  is_from k row = nat_le k row.slot

  low_rows : (levels level k : ℕ) → k < length plan.slots
      → list_all (is_from k) (bill_from plan seen reading levels level k) ≡ true
  low_rows zero level k there = refl
  low_rows (suc levels) level k there =
      let bill = bill_from plan seen reading levels (level + 1) in
      all_flat (is_from k) (takes plan seen reading k) (chunk plan reading bill level k)
      (λ n h. and_from (nat_le k k) (list_all (is_from k) (below bill (component_of plan n))) (le-leb k k (omega arith))
      (part_passes (is_from k) bill (component_of plan n)
      (λ j is. let part = part_after plan valid seen reading k n j h is in
      let later = part.after in
      all_grows (is_from j) (is_from k)
      (λ row e. let low = leb-true j row.slot e in le-leb k row.slot (omega (arith, low, later)))
      (bill j) (low_rows levels (level + 1) j part.there))))
      (lines_of plan seen reading k) (taken plan seen reading k)

  -- the own lines of a slot at a level, and those that a row brings: where the slot is its component
  abbrev pub own : ℕ → ℕ → List BillLine
  own i level = map (bill_line plan reading level i) (lines_of plan seen reading i)

  abbrev pub brings : ℕ → BillLine → List BillLine
  brings i row = cond (is_number i (component_of plan row.line)) (own i (row.level + 1)) []

  abbrev pub is_of : ℕ → BillLine → Bool
  is_of i row = row.slot == i

  -- rows of the slot or of later ones bring none
  brings_none : (i : ℕ) (row : BillLine) → is_from i row ≡ true → is_own_row row ≡ true
      → (o : Option ℕ) → component_of plan row.line ≡ o → cond (is_number i o) (own i (row.level + 1)) [] ≡ []
  brings_none i row low takes None is = refl
  brings_none i row low takes (Some j) is =
      let part = part_after plan valid seen reading row.slot row.line j takes is in
      step (i == j) refl (leb-true i row.slot low) part.after
    where
      step : (b : Bool) → (i == j) ≡ b → i ≤ row.slot → row.slot < j → cond b (own i (row.level + 1)) [] ≡ []
      step true is low after = let same = eqb-true i j is in absurd (omega (arith, same, low, after))
      step false is low after = refl

  none_brought : (i level : ℕ) → i < length plan.slots → flat_map (brings i) (own_bill plan seen reading level i) ≡ []
  none_brought i level there =
      gives_none (brings i) (λ row. is_from i row && is_own_row row)
      (λ row h. let both = and_parts (is_from i row) (is_own_row row) h in
      brings_none i row both.0 both.1 (component_of plan row.line) refl)
      (own_bill plan seen reading level i)
      (both_pass (is_from i) is_own_row (own_bill plan seen reading level i)
      (low_rows (length plan.slots) level i there)
      (own_rows (length plan.slots) level i))

  -- of a slot's own bill its lines are those of the slot
  pub own_left : (i level : ℕ) → i < length plan.slots
      → filter (is_of i) (own_bill plan seen reading level i) ≡ own i level
  own_left i level there =
      ap (filter (is_of i))
      (one_bill plan valid seen reading (length plan.slots) (suc (length plan.slots)) level i there (omega arith)
      (omega arith))
      ∙ heads_pass (is_of i) (takes plan seen reading i) (bill_line plan reading level i)
      (λ n. below (own_bill plan seen reading (level + 1)) (component_of plan n)) (λ n. eq-eqb i i refl)
      (λ n h. none_passes (is_of i) (below (own_bill plan seen reading (level + 1)) (component_of plan n))
      (part_passes (λ row. not (is_of i row)) (own_bill plan seen reading (level + 1)) (component_of plan n)
      (λ j is. let part = part_after plan valid seen reading i n j h is in
      let later = part.after in
      all_grows (is_from j) (λ row. not (is_of i row))
      (λ row e. let low = leb-true j row.slot e in other_slot i row.slot (omega (arith, low, later)))
      (own_bill plan seen reading (level + 1) j) (low_rows (length plan.slots) (level + 1) j part.there))))
      (lines_of plan seen reading i) (taken plan seen reading i)

  own_brought : (i level : ℕ) → i < length plan.slots
      → filter (is_of i) (own_bill plan seen reading level i)
      ≡ own i level ++ flat_map (brings i) (own_bill plan seen reading level i)
  own_brought i level there =
      own_left i level there ∙ sym (append-nil (own i level))
      ∙ ap (λ rows. own i level ++ rows) (sym (none_brought i level there))

  -- in the bill of another slot the lines of the slot are those that rows bring
  abbrev pub Brought : ℕ → ℕ → ℕ → Type 0
  Brought i level k = filter (is_of i) (own_bill plan seen reading level k)
      ≡ flat_map (brings i) (own_bill plan seen reading level k)

  part_brought : (i level : ℕ) → i < length plan.slots → (o : Option ℕ)
      → ((j : ℕ) → o ≡ Some j → (j ≡ i → ⊥) → Brought i (level + 1) j)
      → filter (is_of i) (below (own_bill plan seen reading (level + 1)) o)
      ≡ cond (is_number i o) (own i (level + 1)) []
      ++ flat_map (brings i) (below (own_bill plan seen reading (level + 1)) o)
  part_brought i level there None later = refl
  part_brought i level there (Some j) later = step (i == j) refl
    where
      step : (b : Bool) → (i == j) ≡ b → filter (is_of i) (own_bill plan seen reading (level + 1) j)
          ≡ cond b (own i (level + 1)) [] ++ flat_map (brings i) (own_bill plan seen reading (level + 1) j)
      step true is =
          subst (λ k. filter (is_of i) (own_bill plan seen reading (level + 1) k)
          ≡ own i (level + 1) ++ flat_map (brings i) (own_bill plan seen reading (level + 1) k)) (eqb-true i j is)
          (own_brought i (level + 1) there)
      step false is = later j refl (λ same. eqb-false i j is (sym same))

  head_out : (i level k n : ℕ) (rest : List BillLine) → (k ≡ i → ⊥)
      → filter (is_of i) (bill_line plan reading level k n ∷ rest) ≡ filter (is_of i) rest
  head_out i level k n rest other = step (k == i) refl (filter (is_of i) rest)
    where
      step : (b : Bool) → (k == i) ≡ b → (left : List BillLine)
          → cond b (bill_line plan reading level k n ∷ left) left ≡ left
      step true is left = absurd (other (eqb-true k i is))
      step false is left = refl

  pub brought : (i : ℕ) → i < length plan.slots → (m level k : ℕ) → (k ≡ i → ⊥) → k < length plan.slots
      → length plan.slots ≤ m + k → Brought i level k
  brought i at zero level k other there enough = absurd (omega arith)
  brought i at (suc m) level k other there enough =
      let levels = length plan.slots in
      let whole = one_bill plan valid seen reading levels (suc levels) level k there (omega arith) (omega arith) in
      ap (filter (is_of i)) whole
      ∙ parts_same (is_of i) (brings i) (takes plan seen reading k)
      (chunk plan reading (own_bill plan seen reading (level + 1)) level k)
      (λ n h. head_out i level k n (below (own_bill plan seen reading (level + 1)) (component_of plan n)) other
      ∙ part_brought i level at (component_of plan n)
      (λ j is not_i. let part = part_after plan valid seen reading k n j h is in
      let later = part.after in
      brought i at m (level + 1) j not_i part.there (omega (arith, later))))
      (lines_of plan seen reading k) (taken plan seen reading k)
      ∙ ap (flat_map (brings i)) (sym whole)
