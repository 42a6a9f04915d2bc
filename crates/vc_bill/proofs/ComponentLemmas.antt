-- The slots that stand for lines, found from the last slot to the first: what is put later is the earlier slot.
use Rattle.std.proofs.Common.{◌≡◌, ℕ, zero, suc, ◌+◌, ◌-◌, ◌<◌, ◌≤◌, Bool, true, false, cond, ◌&&◌, List, ◌∷◌, length}
use Rattle.std.proofs.Common.{get_or, map, replicate, refl, sym, ◌∙◌, ap, arith}
use Rattle.std.specs.Prelude.{Option, None, Some, is_some, slice_get, slice_set, ◌==◌}
use Rattle.std.specs.List.{find, range_with_len}
use Rattle.std.proofs.lemmas.Bool.{eq-eqb, ne_eqb}
use Rattle.std.proofs.lemmas.List.{length-map, set_past}
use Rattle.std.proofs.lemmas.Option.{slice_get-get_or}
use Rattle.vc_plan.specs.declared.plans.Plan.{Plan}
use Rattle.vc_plan.specs.declared.plans.Slot.{Slot}
use Rattle.vc_plan.specs.Bills.{component_of, is_for_line}
use Rattle.vc_plan.specs.Domains.{numbers_below}
use Rattle.vc_bill.specs.Components.{component_from, components_from, with_component}

pub none_put : {X : Type 0} (xs : List X) (n : ℕ) (x : X) → length xs ≤ n → xs ≡ slice_set xs n x
none_put xs n x past = sym (set_past xs n x past)

-- what a function gives of the numbers of a range, where another gives the same
mapped_same : {X : Type 0} (f g : ℕ → X) (a m : ℕ) → ((n : ℕ) → a ≤ n → f n ≡ g n)
    → map f (range_with_len a m) ≡ map g (range_with_len a m)
mapped_same f g a zero each = refl
mapped_same f g a (suc m) each =
    ap (λ y. y ∷ map f (range_with_len (a + 1) m)) (each a (omega arith))
    ∙ ap (λ ys. g a ∷ ys) (mapped_same f g (a + 1) m (λ n low. each n (omega (arith, low))))

-- a cell written over is another function at that number
written_over : {X : Type 0} (f : ℕ → X) (v : X) (a m l : ℕ)
    → slice_set (map f (range_with_len a m)) l v ≡ map (λ n. cond (a + l == n) v (f n)) (range_with_len a m)
written_over f v a zero l = refl
written_over f v a (suc m) zero =
    let first : v ≡ cond (a + 0 == a) v (f a) = sym (ap (λ b. cond b v (f a)) (eq-eqb (a + 0) a (omega arith))) in
    ap (λ y. y ∷ map f (range_with_len (a + 1) m)) first
    ∙ ap (λ ys. cond (a + 0 == a) v (f a) ∷ ys)
    (mapped_same f (λ n. cond (a + 0 == n) v (f n)) (a + 1) m
    (λ n low. sym (ap (λ b. cond b v (f n)) (ne_eqb (a + 0) n (λ same. omega (arith, same, low))))))
written_over f v a (suc m) (suc l) =
    let first : f a ≡ cond (a + suc l == a) v (f a)
    = sym (ap (λ b. cond b v (f a)) (ne_eqb (a + suc l) a (λ same. omega (arith, same)))) in
    let place : (a + 1) + l ≡ a + suc l = omega arith in
    ap (λ ys. f a ∷ ys) (written_over f v (a + 1) m l)
    ∙ (ap (λ k. f a ∷ map (λ n. cond (k == n) v (f n)) (range_with_len (a + 1) m)) place
    ∙ ap (λ y. y ∷ map (λ n. cond (a + suc l == n) v (f n)) (range_with_len (a + 1) m)) first)

-- nothing stands for lines past the last slot
nothing_mapped : {X : Type 0} (x : X) (a m : ℕ) → map (λ (n : ℕ). x) (range_with_len a m) ≡ replicate m x
nothing_mapped x a zero = refl
nothing_mapped x a (suc m) = ap (λ ys. x ∷ ys) (nothing_mapped x (a + 1) m)

module _ (plan : Plan) where
  abbrev count : ℕ
  count = length plan.slots

  past_all : (j n : ℕ) → count ≤ j → component_from plan j n ≡ None
  past_all j n past =
      let none : count - j ≡ 0 = omega (arith, past) in
      ap (λ k. find (λ i. is_for_line n (slice_get plan.slots i)) (range_with_len j k)) none

  pub begun : (j m : ℕ) → count ≤ j → m ≡ length plan.lines → replicate m None ≡ components_from plan j
  begun j m past is =
      ap (λ k. replicate k None) is
      ∙ (sym (nothing_mapped None 0 (length plan.lines))
      ∙ mapped_same (λ n. None) (component_from plan j) 0 (length plan.lines) (λ n low. sym (past_all j n past)))

  first_of_slots : (j n : ℕ) (slot : Slot) → j < count → slice_get plan.slots j ≡ Some slot
      → component_from plan j n
      ≡ cond (is_some slot.parent && (slot.line == n)) (Some j) (component_from plan (j + 1) n)
  first_of_slots j n slot low is =
      let more : count - j ≡ suc (count - (j + 1)) = omega (arith, low) in
      ap (λ k. find (λ i. is_for_line n (slice_get plan.slots i)) (range_with_len j k)) more
      ∙ ap (λ o. cond (is_for_line n o) (Some j) (component_from plan (j + 1) n)) is

  -- the slot before is put over those after it
  pub one_before : (j : ℕ) (slot : Slot) → j < count → slice_get plan.slots j ≡ Some slot
      → with_component slot j (components_from plan (j + 1)) ≡ components_from plan j
  one_before j slot low is = by (is_some slot.parent) refl
    where
      by : (b : Bool) → is_some slot.parent ≡ b
          → cond (is_some slot.parent) (slice_set (components_from plan (j + 1)) slot.line (Some j))
          (components_from plan (j + 1))
          ≡ components_from plan j
      by true e =
          ap (λ c. cond c (slice_set (components_from plan (j + 1)) slot.line (Some j)) (components_from plan (j + 1)))
          e
          ∙ (written_over (component_from plan (j + 1)) (Some j) 0 (length plan.lines) slot.line
          ∙ mapped_same (λ n. cond (0 + slot.line == n) (Some j) (component_from plan (j + 1) n))
          (component_from plan j) 0 (length plan.lines)
          (λ n least. ap (λ k. cond (k == n) (Some j) (component_from plan (j + 1) n)) (omega arith)
          ∙ (ap (λ c. cond (c && (slot.line == n)) (Some j) (component_from plan (j + 1) n)) (sym e)
          ∙ sym (first_of_slots j n slot low is))))
      by false e =
          ap (λ c. cond c (slice_set (components_from plan (j + 1)) slot.line (Some j)) (components_from plan (j + 1)))
          e
          ∙ mapped_same (component_from plan (j + 1)) (component_from plan j) 0 (length plan.lines)
          (λ n least. ap (λ c. cond (c && (slot.line == n)) (Some j) (component_from plan (j + 1) n)) (sym e)
          ∙ sym (first_of_slots j n slot low is))

  -- at the first slot it is all of them
  from_first : (n : ℕ) → component_from plan 0 n ≡ component_of plan n
  from_first n =
      let all : count - 0 ≡ count = omega arith in
      ap (λ k. find (λ i. is_for_line n (slice_get plan.slots i)) (range_with_len 0 k)) all

  pub all_put : (j : ℕ) → j ≤ 0 → components_from plan j ≡ map (component_of plan) (numbers_below (length plan.lines))
  all_put j first =
      let none : j ≡ 0 = omega (arith, first) in
      ap (components_from plan) none
      ∙ mapped_same (component_from plan 0) (component_of plan) 0 (length plan.lines) (λ n low. from_first n)

  -- the slot before the one at hand, as it is read
  pub stepped : (slots : List Slot) (number : ℕ) (d : Slot) (table next : List (Option ℕ)) → slots ≡ plan.slots
      → 0 < number
      → number ≤ count → table ≡ components_from plan number
      → next ≡ with_component (get_or slots (number - 1) d) (number - 1) table
      → next ≡ components_from plan (number - 1)
  stepped slots number d table next is some inside so_far put =
      let slot = get_or slots (number - 1) d in
      let low : number - 1 < length slots = omega (arith, some, inside, ap length is) in
      let there : slice_get plan.slots (number - 1) ≡ Some slot =
      ap (λ xs. slice_get xs (number - 1)) (sym is) ∙ slice_get-get_or slots (number - 1) d low in
      let more : number ≡ (number - 1) + 1 = omega (arith, some) in
      put ∙ (ap (with_component slot (number - 1)) (so_far ∙ ap (components_from plan) more)
      ∙ one_before (number - 1) slot (omega (arith, some, inside)) there)

-- how long a list of what numbers give is
range_length : (a n : ℕ) → length (range_with_len a n) ≡ n
range_length a zero = refl
range_length a (suc n) = ap suc (range_length (a + 1) n)

pub listed_length : {X : Type 0} (f : ℕ → X) (m : ℕ) → length (map f (numbers_below m)) ≡ m
listed_length f m = length-map (numbers_below m) f ∙ range_length 0 m

-- what the list has of a line
listed_from : {X : Type 0} (f : ℕ → X) (a m n : ℕ) → n < m → slice_get (map f (range_with_len a m)) n ≡ Some (f (a + n))
listed_from f a zero n low = absurd (omega (arith, low))
listed_from f a (suc m) zero low = let same : a ≡ a + 0 = omega arith in ap (λ k. Some (f k)) same
listed_from f a (suc m) (suc n) low =
    let same : (a + 1) + n ≡ a + suc n = omega arith in
    listed_from f (a + 1) m n (omega (arith, low)) ∙ ap (λ k. Some (f k)) same

pub listed : {X : Type 0} (f : ℕ → X) (m n : ℕ) → n < m → slice_get (map f (numbers_below m)) n ≡ Some (f n)
listed f m n low = let same : 0 + n ≡ n = omega arith in listed_from f 0 m n low ∙ ap (λ k. Some (f k)) same
