-- What of all that stands slot by slot stands at one slot, and what is left of things by a test.
use Rattle.std.proofs.Common.{◌≡◌, ℕ, zero, suc, ◌+◌, ◌<◌, Bool, true, false, cond, List, [], ◌∷◌, ◌++◌, length}
use Rattle.std.proofs.Common.{Some, refl, ap, ◌∙◌, arith, append-nil}
use Rattle.std.specs.Prelude.{◌==◌, slice_get}
use Rattle.std.specs.List.{filter, range_with_len}
use Rattle.std.proofs.lemmas.Bool.{eq-eqb, ne_eqb}
use Rattle.vc_plan.specs.declared.plans.Slot.{Slot}
use Rattle.vc_compile_plan.specs.Numbering.{Brings, numbered}
use Rattle.vc_compile_plan.specs.Variables.{by_slot}
use Rattle.vc_compile_valid.proofs.EachLaws.{Each, each_by_slot, each_more}

pub left_append : {X : Type 0} (test : X → Bool) (xs ys : List X)
    → filter test (xs ++ ys) ≡ filter test xs ++ filter test ys
left_append test [] ys = refl
left_append test (x ∷ xs) ys = by (test x) (left_append test xs ys)
  where
    by : (b : Bool) → filter test (xs ++ ys) ≡ filter test xs ++ filter test ys
        → cond b (x ∷ filter test (xs ++ ys)) (filter test (xs ++ ys))
        ≡ cond b (x ∷ filter test xs) (filter test xs) ++ filter test ys
    by true e = ap (λ l. x ∷ l) e
    by false e = e

pub all_left : {X : Type 0} (test : X → Bool) (xs : List X) → Each (λ x. test x ≡ true) xs → filter test xs ≡ xs
all_left test [] h = refl
all_left test (x ∷ xs) h = ap (λ b. cond b (x ∷ filter test xs) (filter test xs)) h.0
    ∙ ap (λ l. x ∷ l) (all_left test xs h.1)

pub none_left : {X : Type 0} (test : X → Bool) (xs : List X) → Each (λ x. test x ≡ false) xs → filter test xs ≡ []
none_left test [] h = refl
none_left test (x ∷ xs) h = ap (λ b. cond b (x ∷ filter test xs) (filter test xs)) h.0 ∙ none_left test xs h.1

pub at_slot : {X : Type 0} (slot_of : X → ℕ) (has : ℕ → Slot → List X)
    → ((i : ℕ) (slot : Slot) → Each (λ x. slot_of x ≡ i) (has i slot))
    → (i : ℕ) (slots : List Slot) (k : ℕ) (slot : Slot)
    → slice_get slots k ≡ Some slot → (n : ℕ) → n ≡ i + k
    → filter (λ x. slot_of x == n) (by_slot has i slots) ≡ has n slot
at_slot slot_of has own i [] k slot e n is = absurd (cc)
at_slot slot_of has own i (s ∷ slots) zero slot e n is =
    let same : s ≡ slot = cc in
    let here : i ≡ n = omega (arith, is) in
    left_append (λ x. slot_of x == n) (has i s) (by_slot has (suc i) slots)
    ∙ ap (λ l. l ++ filter (λ x. slot_of x == n) (by_slot has (suc i) slots))
    (all_left (λ x. slot_of x == n) (has i s)
    (each_more (λ x. slot_of x ≡ i) (λ x. (slot_of x == n) ≡ true) (λ x h. eq-eqb (slot_of x) n (h ∙ here)) (has i s)
    (own i s)))
    ∙ ap (λ l. has i s ++ l) (none_left (λ x. slot_of x == n) (by_slot has (suc i) slots)
    (each_by_slot (λ x. (slot_of x == n) ≡ false) has (suc i) slots
    (λ j t f. each_more (λ x. slot_of x ≡ suc i + j) (λ x. (slot_of x == n) ≡ false)
    (λ x h. ne_eqb (slot_of x) n (λ g. omega (arith, g, h, is))) (has (suc i + j) t) (own (suc i + j) t))))
    ∙ append-nil (has i s) ∙ ap (has i) same ∙ ap (λ m. has m slot) here
at_slot slot_of has own i (s ∷ slots) (suc k) slot e n is =
    left_append (λ x. slot_of x == n) (has i s) (by_slot has (suc i) slots)
    ∙ ap (λ l. l ++ filter (λ x. slot_of x == n) (by_slot has (suc i) slots))
    (none_left (λ x. slot_of x == n) (has i s)
    (each_more (λ x. slot_of x ≡ i) (λ x. (slot_of x == n) ≡ false)
    (λ x h. ne_eqb (slot_of x) n (λ g. omega (arith, g, h, is)))
    (has i s) (own i s)))
    ∙ at_slot slot_of has own (suc i) slots k slot e n (omega (arith, is))

-- as many are left of what is numbered as of the drafts
pub left_numbered : {D X : Type 0} (brings : Brings D) (make : ℕ → ℕ → D → X) (test : X → Bool) (earlier : D → Bool)
    → ((c t : ℕ) (d : D) → test (make c t d) ≡ earlier d) → (c t : ℕ) (drafts : List D)
    → length (filter test (numbered brings make c t drafts)) ≡ length (filter earlier drafts)
left_numbered brings make test earlier of c t [] = refl
left_numbered brings make test earlier of c t (d ∷ drafts) =
    by (test (make c t d)) (earlier d) (of c t d)
    (left_numbered brings make test earlier of (c + length (brings.conditions d)) (t + length (brings.terms d)) drafts)
  where
    by : (a b : Bool) → a ≡ b
        → length (filter test
        (numbered brings make (c + length (brings.conditions d)) (t + length (brings.terms d)) drafts))
        ≡ length (filter earlier drafts)
        → length (cond a (make c t d
        ∷ filter test (numbered brings make (c + length (brings.conditions d)) (t + length (brings.terms d)) drafts))
        (filter test (numbered brings make (c + length (brings.conditions d)) (t + length (brings.terms d)) drafts)))
        ≡ length (cond b (d ∷ filter earlier drafts) (filter earlier drafts))
    by true true same e = ap suc e
    by false false same e = e
    by true false same e = absurd (cc)
    by false true same e = absurd (cc)

pub below_count : (a n : ℕ) → Each (λ i. i < a + n) (range_with_len a n)
below_count a zero = tt
below_count a (suc n) = (
  omega arith,
  each_more (λ i. i < (a + 1) + n) (λ i. i < a + suc n) (λ i h. omega (arith, h)) (range_with_len (a + 1) n)
      (below_count (a + 1) n),
)
