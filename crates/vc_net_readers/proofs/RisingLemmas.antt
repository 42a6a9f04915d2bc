-- Numbers that ascend, and what is found among them.
use Rattle.std.proofs.Common.{◌≡◌, ℕ, zero, suc, ◌+◌, ◌<◌, ◌≤◌, Bool, true, false, cond, ◌||◌, List, [], ◌∷◌, length}
use Rattle.std.proofs.Common.{refl, sym, ◌∙◌, ap, subst, inl, inr, arith, get_or}
use Rattle.std.specs.Prelude.{MatchResult, Result, Ok, Err, nat_eq}
use Rattle.std.specs.List.{filter, range_with_len}
use Rattle.std.proofs.lemmas.Bool.{cases_lt, eqb-true}
use Rattle.vc_base.specs.Sets.{has}
use Rattle.vc_base.proofs.ListLaws.{number_exact, number_itself}
use Rattle.vc_base.proofs.SetLaws.{has_first, has_more, told}
use Rattle.vc_net_readers.specs.Rising.{IsRising}

-- numbers of a range that pass a test ascend, from where it begins
from_start : (p : ℕ → Bool) (a n j : ℕ) → j < length (filter p (range_with_len a n))
    → a ≤ get_or (filter p (range_with_len a n)) j 0
from_start p a zero j below = absurd (omega (arith, below))
from_start p a (suc n) j below = by (p a) (from_start p (a + 1) n) j below
  where
    rest : List ℕ
    rest = filter p (range_with_len (a + 1) n)

    by : (b : Bool) → ((k : ℕ) → k < length rest → a + 1 ≤ get_or rest k 0) → (k : ℕ)
        → k < length (cond b (a ∷ rest) rest) → a ≤ get_or (cond b (a ∷ rest) rest) k 0
    by true later zero low = omega arith
    by true later (suc k) low = let more = later k (omega (arith, low)) in omega (arith, more)
    by false later k low = let more = later k low in omega (arith, more)

pub passing_rise : (p : ℕ → Bool) (a n : ℕ) → IsRising (filter p (range_with_len a n))
passing_rise p a zero = λ i j low below. absurd (omega (arith, below))
passing_rise p a (suc n) = by (p a) (passing_rise p (a + 1) n)
  where
    rest : List ℕ
    rest = filter p (range_with_len (a + 1) n)

    shifted : IsRising rest → (i j : ℕ) → i ≤ j → j < length (a ∷ rest) → get_or (a ∷ rest) i 0 ≤ get_or (a ∷ rest) j 0
    shifted rise zero zero low below = omega arith
    shifted rise zero (suc j) low below =
        let more = from_start p (a + 1) n j (omega (arith, below)) in omega (arith, more)
    shifted rise (suc i) zero low below = absurd (omega (arith, low))
    shifted rise (suc i) (suc j) low below = rise i j (omega (arith, low)) (omega (arith, below))

    by : (b : Bool) → IsRising rest → IsRising (cond b (a ∷ rest) rest)
    by true rise = λ i j low below. shifted rise i j low below
    by false rise = rise

-- what stands at a place is among the numbers; what stands nowhere isn't
stands_among : (xs : List ℕ) (i : ℕ) → i < length xs → has nat_eq xs (get_or xs i 0) ≡ true
stands_among [] i below = absurd (omega (arith, below))
stands_among (x ∷ xs) zero below = has_first nat_eq number_exact number_itself x xs
stands_among (x ∷ xs) (suc i) below =
    has_more nat_eq number_exact number_itself x xs (get_or xs i 0) (stands_among xs i (omega (arith, below)))

nowhere_among : (xs : List ℕ) (x : ℕ) → ((k : ℕ) → k < length xs → get_or xs k 0 ≡ x → ⊥) → has nat_eq xs x ≡ false
nowhere_among [] x apart = refl
nowhere_among (y ∷ xs) x apart =
    elim (told (nat_eq x y)) [
      | inl e ↦ absurd (apart 0 (omega arith) (sym (eqb-true x y e)))
      | inr e ↦
          ap (λ b. b || has nat_eq xs x) e
          ∙ nowhere_among xs x (λ k below same. apart (suc k) (omega (arith, below)) same)
    ]

abbrev Found : List ℕ → ℕ → ℕ → Type 0
Found xs x i = (i < length xs) × (get_or xs i 0 ≡ x)

abbrev Missed : List ℕ → ℕ → ℕ → Type 0
Missed xs x i = (i ≤ length xs) × ((k : ℕ) → k < i → get_or xs k 0 < x)
    × ((k : ℕ) → i ≤ k → k < length xs → x < get_or xs k 0)

pub found_among : (xs : List ℕ) (x : ℕ) (r : Result ℕ ℕ) (i : ℕ) → r ≡ Ok i
    → MatchResult r (Found xs x) (Missed xs x) → true ≡ has nat_eq xs x
found_among xs x r i is told =
    let at : Found xs x i = subst (λ s. MatchResult s (Found xs x) (Missed xs x)) is told in
    sym (ap (has nat_eq xs) (sym at.1) ∙ stands_among xs i at.0)

pub not_among : (xs : List ℕ) (x : ℕ) (r : Result ℕ ℕ) (i : ℕ) → r ≡ Err i
    → MatchResult r (Found xs x) (Missed xs x) → false ≡ has nat_eq xs x
not_among xs x r i is told =
    let past : Missed xs x i = subst (λ s. MatchResult s (Found xs x) (Missed xs x)) is told in
    sym (nowhere_among xs x (λ k below same. elim (cases_lt k i) [
      | inl low ↦ let less = past.1 k low in omega (arith, less, same)
      | inr high ↦ let more = past.2 k high below in omega (arith, more, same)
    ]))
