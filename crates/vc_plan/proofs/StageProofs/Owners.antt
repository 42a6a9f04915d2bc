-- Which slot a line's component is: the one that stands for it, and no other.
use Rattle.std.proofs.Common.{◌≡◌, ℕ, zero, suc, ◌+◌, ◌<◌, ◌≤◌, Bool, true, false, not, cond, ◌||◌, List, [], ◌∷◌}
use Rattle.std.proofs.Common.{length, refl, sym, ap, ◌∙◌, arith}
use Rattle.std.proofs.lemmas.Bool.{and_parts, and_from, eqb-true, eq-eqb, ltb-true}
use Rattle.std.specs.Prelude.{Option, None, Some, is_some, nat_lt, slice_get, ◌==◌}
use Rattle.std.specs.List.{find, list_all, list_any, range_with_len}
use Rattle.vc_plan.specs.declared.plans.Line.{Line}
use Rattle.vc_plan.specs.declared.plans.Plan.{Plan}
use Rattle.vc_plan.specs.declared.plans.Slot.{Slot}
use Rattle.vc_plan.specs.Bills.{component_of, is_for_line, is_line_of, takes_line}
use Rattle.vc_plan.specs.Domains.{numbers_below}
use Rattle.vc_plan.specs.Orders.{are_in_order, is_number, same_number_if}
use Rattle.vc_plan.specs.Readings.{Reading}
use Rattle.vc_plan.specs.Seen.{Seen}
use Rattle.vc_plan.specs.Slots.{depth_in, is_below, is_item_before, slot_of_line}
use Rattle.vc_plan.specs.Valid.{IsValid}
use Rattle.vc_plan.proofs.StageProofs.Items.{within}
use Rattle.vc_plan.proofs.StageProofs.Levels.{takes}
use Rattle.vc_plan.proofs.StageProofs.Parents.{all_at, all_behind, found, stands_below}

-- of two places of a list in order the first comes before
in_order_at : (before : Slot → Slot → Bool) (xs : List Slot) (i j : ℕ) (x y : Slot) → are_in_order before xs ≡ true
    → i < j
    → slice_get xs i ≡ Some x → slice_get xs j ≡ Some y → before x y ≡ true
in_order_at before [] i j x y ordered less at_i at_j = absurd (cc at_i)
in_order_at before (z ∷ zs) zero zero x y ordered less at_i at_j = absurd (omega arith)
in_order_at before (z ∷ zs) zero (suc j) x y ordered less at_i at_j =
    let same : z ≡ x = cc in
    ap (λ s. before s y) (sym same)
    ∙ all_at (before z) zs j y (and_parts (list_all (before z) zs) (are_in_order before zs) ordered).0 at_j
in_order_at before (z ∷ zs) (suc i) zero x y ordered less at_i at_j = absurd (omega arith)
in_order_at before (z ∷ zs) (suc i) (suc j) x y ordered less at_i at_j =
    in_order_at before zs i j x y (and_parts (list_all (before z) zs) (are_in_order before zs) ordered).1 (omega arith)
    at_i at_j

-- so no two slots of one parent stand for one line
not_before : (plan : Plan) → IsValid plan → (i j p : ℕ) (x y : Slot) → i < j → slice_get plan.slots i ≡ Some x
    → slice_get plan.slots j ≡ Some y
    → x.parent ≡ Some p → y.parent ≡ Some p → x.line ≡ y.line → ⊥
not_before plan valid i j p x y less at_i at_j of_x of_y same =
    let before = in_order_at is_item_before plan.slots i j x y valid.items less at_i at_j in
    let one_parent : same_number_if x.parent y.parent ≡ true =
    ap (λ o. same_number_if o y.parent) of_x ∙ ap (same_number_if (Some p)) of_y ∙ eq-eqb p p refl in
    let earlier : nat_lt x.line y.line ≡ true = sym (ap (λ b. not b || nat_lt x.line y.line) one_parent) ∙ before in
    let lower = ltb-true x.line y.line earlier in
    omega (arith, lower, same)

-- the slot that is found for a line stands for it
pub record StandsFor (plan : Plan) (n j : ℕ) : Type 0 where
  pub slot : Slot
  pub at : slice_get plan.slots j ≡ Some slot
  pub for_line : slot.line ≡ n
  pub parent : ℕ
  pub has_parent : slot.parent ≡ Some parent

pub stands : (plan : Plan) (n j : ℕ) → component_of plan n ≡ Some j → StandsFor plan n j
stands plan n j is =
    of_slot (slice_get plan.slots j) refl
    (found (λ k. is_for_line n (slice_get plan.slots k)) (numbers_below (length plan.slots)) j is)
  where
    of_parent : (slot : Slot) → slice_get plan.slots j ≡ Some slot → (slot.line == n) ≡ true → (o : Option ℕ)
        → slot.parent ≡ o
        → is_some o ≡ true
        → StandsFor plan n j
    of_parent slot at for_line None e h = absurd (cc)
    of_parent slot at for_line (Some p) e h =
        record { slot = slot; at = at; for_line = eqb-true slot.line n for_line; parent = p; has_parent = e }

    of_slot : (o : Option Slot) → slice_get plan.slots j ≡ o → is_for_line n o ≡ true → StandsFor plan n j
    of_slot None e h = absurd (cc)
    of_slot (Some slot) e h = let both = and_parts (is_some slot.parent) (slot.line == n) h in
        of_parent slot e both.1 slot.parent refl both.0

-- something is found where something passes
find_some : (test : ℕ → Bool) (xs : List ℕ) → list_any test xs ≡ true → (x : ℕ) × (find test xs ≡ Some x)
find_some test [] h = absurd (cc)
find_some test (y ∷ ys) h = step (test y) h (find_some test ys)
  where
    step : (b : Bool) → (b || list_any test ys) ≡ true → (list_any test ys ≡ true → (x : ℕ) × (find test ys ≡ Some x))
        → (x : ℕ) × (cond b (Some y) (find test ys) ≡ Some x)
    step true h later = (y, refl)
    step false h later = later h

one_number : (test : ℕ → Bool) (a n i : ℕ) → a ≤ i → i < a + n → test i ≡ true
    → list_any test (range_with_len a n) ≡ true
one_number test a zero i low high passes = absurd (omega arith)
one_number test a (suc n) i low high passes =
    step (a == i) refl (λ other. one_number test (a + 1) n i (omega (arith, other)) (omega arith) passes)
  where
    later : (b : Bool) → list_any test (range_with_len (a + 1) n) ≡ true
        → (b || list_any test (range_with_len (a + 1) n)) ≡ true
    later true h = refl
    later false h = h

    step : (b : Bool) → (a == i) ≡ b → ((a ≡ i → ⊥) → list_any test (range_with_len (a + 1) n) ≡ true)
        → (test a || list_any test (range_with_len (a + 1) n)) ≡ true
    step true is more =
        ap (λ b. b || list_any test (range_with_len (a + 1) n)) (ap test (eqb-true a i is) ∙ passes)
    step false is more = later (test a) (more (λ same. differ (sym is ∙ eq-eqb a i same)))
      where
        differ : false ≡ true → ⊥
        differ e = cc

-- the component of a slot's line is that slot
pub component_is : (plan : Plan) → IsValid plan → (i p : ℕ) (slot : Slot) → slice_get plan.slots i ≡ Some slot
    → slot.parent ≡ Some p
    → (line : Line) → slice_get plan.lines slot.line ≡ Some line → component_of plan slot.line ≡ Some i
component_is plan valid i p slot at parent line at_line =
    let passes : is_for_line slot.line (slice_get plan.slots i) ≡ true =
    ap (is_for_line slot.line) at
    ∙ and_from (is_some slot.parent) (slot.line == slot.line) (ap is_some parent)
    (eq-eqb slot.line slot.line refl) in
    let some = find_some (λ k. is_for_line slot.line (slice_get plan.slots k)) (numbers_below (length plan.slots))
    (one_number (λ k. is_for_line slot.line (slice_get plan.slots k)) 0 (length plan.slots) i (omega arith)
    (let there = within plan.slots i slot at in omega (arith, there)) passes) in
    let other = stands plan slot.line some.0 some.1 in
    let owner = stands_below plan valid slot.line i p line slot at_line at refl parent in
    let others
    = stands_below plan valid slot.line some.0 other.parent line other.slot at_line other.at other.for_line
    other.has_parent in
    let of_other : other.slot.parent ≡ Some p = other.has_parent ∙ ap Some (others ∙ sym owner) in
    some.1 ∙ ap Some (one i some.0
    (λ less. not_before plan valid i some.0 p slot other.slot less at other.at parent of_other (sym other.for_line))
    (λ less. not_before plan valid some.0 i p other.slot slot less other.at at of_other parent other.for_line))
  where
    one : (a b : ℕ) → (a < b → ⊥) → (b < a → ⊥) → b ≡ a
    one a b not_less not_more = omega (arith, not_less, not_more)

-- a slot's line is one that its parent has, one level up
pub record IsOwned (plan : Plan) (i p : ℕ) (slot : Slot) : Type 0 where
  pub line : Line
  pub at : slice_get plan.lines slot.line ≡ Some line
  pub owner : line.slot ≡ p
  pub deeper : slot.depth ≡ depth_in (slice_get plan.slots p) + 1

pub owned : (plan : Plan) → IsValid plan → (i p : ℕ) (slot : Slot) → slice_get plan.slots (suc i) ≡ Some slot
    → slot.parent ≡ Some p
    → IsOwned plan (suc i) p slot
owned plan valid i p slot at parent =
    let below = all_behind (λ s. is_below plan s s.parent) plan.slots i slot valid.below at in
    let of_parent : is_below plan slot (Some p) ≡ true = sym (ap (is_below plan slot) parent) ∙ below in
    let both
    = and_parts (slot.depth == depth_in (slice_get plan.slots p) + 1)
    (is_number p (slot_of_line (slice_get plan.lines slot.line))) of_parent in
    of_line (eqb-true slot.depth (depth_in (slice_get plan.slots p) + 1) both.0) (slice_get plan.lines slot.line) refl
    both.1
  where
    of_line : slot.depth ≡ depth_in (slice_get plan.slots p) + 1 → (o : Option Line)
        → slice_get plan.lines slot.line ≡ o
        → is_number p (slot_of_line o) ≡ true → IsOwned plan (suc i) p slot
    of_line deeper None e h = absurd (cc)
    of_line deeper (Some line) e h =
        record { line = line; at = e; owner = sym (eqb-true p line.slot h); deeper = deeper }

-- a line that an instance takes is there, and its own
pub record IsTaken (plan : Plan) (i n : ℕ) : Type 0 where
  pub line : Line
  pub at : slice_get plan.lines n ≡ Some line
  pub own : line.slot ≡ i

pub taken_line : (plan : Plan) (seen : Seen) (reading : Reading) (i n : ℕ) → takes plan seen reading i n ≡ true
    → IsTaken plan i n
taken_line plan seen reading i n h = of_line (slice_get plan.lines n) refl h
  where
    of_line : (o : Option Line) → slice_get plan.lines n ≡ o → is_line_of plan seen reading i n o ≡ true
        → IsTaken plan i n
    of_line None e h = absurd (cc)
    of_line (Some line) e h =
        let both = and_parts (line.slot == i) (takes_line plan seen reading line (component_of plan n)) h in
        record { line = line; at = e; own = eqb-true line.slot i both.0 }
