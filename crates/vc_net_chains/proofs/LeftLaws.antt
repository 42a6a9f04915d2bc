-- What is left of steps by numbers is what is left without those in vain.
use Rattle.std.proofs.Common.{◌≡◌, ℕ, zero, suc, ◌+◌, ◌-◌, ◌<◌, ◌≤◌, Bool, true, false, not, List, [], ◌∷◌}
use Rattle.std.proofs.Common.{◌++◌, length, map, take, refl, sym, ◌∙◌, ap, inl, inr, arith, append-nil}
use Rattle.std.specs.Prelude.{Option, None, Some, if◌then◌else◌, slice_get, slice_index_or}
use Rattle.std.proofs.lemmas.Bool.{cases_lt}
use Rattle.std.proofs.lemmas.List.{length-take-le}
use Rattle.vc_base.specs.Kept.{number_left, without}
use Rattle.vc_plan.specs.declared.atoms.Step.{Step}
use Rattle.vc_plan_reasons.specs.Checking.{step_form}
use Rattle.vc_plan_reasons.specs.Trimming.{is_vain, needed, numbers_left, trimmed}
use Rattle.vc_plan_reasons.specs.Trimming.{trimmed_chain}
use Rattle.vc_plan_reasons.proofs.ReasonLaws.Trimming.{Matches, matching}
use Rattle.vc_net_chains.specs.Leaving.{all_left, counted, last_in, new_number, number_in, number_past, one_left}
use Rattle.vc_net_chains.specs.Leaving.{raised}
use Rattle.vc_net_chains.specs.Telling.{trimmed_for}
use Rattle.vc_net_chains.specs.declared.chains.Trimmed.{Trimmed}
use Rattle.vc_net_chains.proofs.MarkLaws.{in_front}

-- the count goes on as the numbers do
raised_left : (dropped : ℕ → Bool) (j : ℕ) (flag : Bool) → dropped (suc j) ≡ not flag
    → raised flag (number_left dropped j) ≡ number_left dropped (suc j)
raised_left dropped j flag e =
    by flag ∙ sym (ap (λ b. if b then number_left dropped j else suc (number_left dropped j)) e)
  where
    by : (f : Bool) → raised f (number_left dropped j)
        ≡ (if not f then number_left dropped j else suc (number_left dropped j))
    by true = refl
    by false = refl

counted_at : (dropped : ℕ → Bool) (j : ℕ) (flags : List Bool) (i k n : ℕ) → Matches dropped (suc j) flags
    → i < length flags → k ≡ suc j + i → n ≡ number_left dropped j
    → slice_get (counted n flags) i ≡ Some (number_left dropped k)
counted_at dropped j [] i k n match low at is = absurd (omega (arith, low))
counted_at dropped j (flag ∷ flags) zero k n match low at is =
    let same : suc j ≡ k = omega (arith, at) in
    ap Some (ap (raised flag) is ∙ (raised_left dropped j flag match.0 ∙ ap (number_left dropped) same))
counted_at dropped j (flag ∷ flags) (suc i) k n match low at is =
    counted_at dropped (suc j) flags i k (raised flag n) match.1 (omega (arith, low)) (omega (arith, at))
    (ap (raised flag) is ∙ raised_left dropped j flag match.0)

length_counted : (n : ℕ) (flags : List Bool) → length (counted n flags) ≡ length flags
length_counted n [] = refl
length_counted n (flag ∷ flags) = ap (λ k. suc k) (length_counted (raised flag n) flags)

-- past all flags nothing is in vain, so numbers go on one by one
not_vain : (flags : List Bool) (n : ℕ) → length flags ≤ n → is_vain flags (suc n) ≡ false
not_vain [] zero low = refl
not_vain [] (suc n) low = refl
not_vain (flag ∷ flags) zero low = absurd (omega (arith, low))
not_vain (flag ∷ flags) (suc n) low = not_vain flags n (omega (arith, low))

left_past : (flags : List Bool) (d k : ℕ) → k ≡ length flags + d
    → number_left (is_vain flags) k ≡ number_left (is_vain flags) (length flags) + d
left_past flags zero k e =
    let same : k ≡ length flags = omega (arith, e) in
    let is : number_left (is_vain flags) k ≡ number_left (is_vain flags) (length flags)
    = ap (number_left (is_vain flags)) same in
    omega (arith, is)
left_past flags (suc d) zero e = absurd (omega (arith, e))
left_past flags (suc d) (suc k) e =
    let before = left_past flags d k (omega (arith, e)) in
    let next : number_left (is_vain flags) (suc k) ≡ suc (number_left (is_vain flags) k)
    = ap (λ b. if b then number_left (is_vain flags) k else suc (number_left (is_vain flags) k))
    (not_vain flags k (omega (arith, e))) in
    omega (arith, before, next)

few_left : (dropped : ℕ → Bool) (k : ℕ) → number_left dropped k ≤ k
few_left dropped zero = omega arith
few_left dropped (suc k) = by (dropped (suc k)) (few_left dropped k)
  where
    by : (b : Bool) → number_left dropped k ≤ k
        → (if b then number_left dropped k else suc (number_left dropped k)) ≤ suc k
    by true few = omega (arith, few)
    by false few = omega (arith, few)

none_past : (numbers : List ℕ) (n : ℕ) → length numbers ≤ n → slice_get numbers n ≡ None
none_past [] zero low = refl
none_past [] (suc n) low = refl
none_past (k ∷ numbers) zero low = absurd (omega (arith, low))
none_past (k ∷ numbers) (suc n) low = none_past numbers n (omega (arith, low))

index_of_get : (numbers : List ℕ) (n k : ℕ) → slice_get numbers n ≡ Some k → slice_index_or numbers n 0 ≡ k
index_of_get [] n k e = absurd (cc)
index_of_get (j ∷ numbers) zero k e = cc
index_of_get (j ∷ numbers) (suc n) k e = index_of_get numbers n k e

all_match : (flags : List Bool) → Matches (is_vain flags) 1 flags
all_match flags = matching flags [] flags refl

-- the last number
last_left : (flags : List Bool) → last_in (counted 0 flags) ≡ number_left (is_vain flags) (length flags)
last_left [] = refl
last_left (flag ∷ flags) =
    let numbers = counted 0 (flag ∷ flags) in
    let long = length_counted 0 (flag ∷ flags) in
    let at : length numbers - 1 ≡ length flags = omega (arith, long) in
    ap (λ i. slice_index_or numbers i 0) at
    ∙ index_of_get numbers (length flags) (number_left (is_vain (flag ∷ flags)) (suc (length flags)))
    (counted_at (is_vain (flag ∷ flags)) 0 (flag ∷ flags) (length flags) (suc (length flags)) 0
    (all_match (flag ∷ flags)) (omega arith) (omega arith) refl)

-- so each number is the one that is left
pub number_is_left : (flags : List Bool) (p : ℕ) → number_in (counted 0 flags) p ≡ number_left (is_vain flags) p
number_is_left flags zero = refl
number_is_left flags (suc n) =
    elim (cases_lt n (length flags)) [
      | inl low ↦
          ap (new_number (counted 0 flags) (suc n))
          (counted_at (is_vain flags) 0 flags n (suc n) 0 (all_match flags) low (omega arith) refl)
      | inr high ↦
          let long = length_counted 0 flags in
          let last = last_left flags in
          let few = few_left (is_vain flags) (length flags) in
          let past = left_past flags (suc n - length flags) (suc n) (omega (arith, high)) in
          let is : number_past (counted 0 flags) (suc n) ≡ number_left (is_vain flags) (suc n)
          = omega (arith, long, last, few, past, high) in
          ap (new_number (counted 0 flags) (suc n)) (none_past (counted 0 flags) n (omega (arith, long, high))) ∙ is
    ]

map_alike : (f g : ℕ → ℕ) (xs : List ℕ) → ((x : ℕ) → f x ≡ g x) → map f xs ≡ map g xs
map_alike f g [] same = refl
map_alike f g (x ∷ xs) same = ap (λ y. y ∷ map f xs) (same x) ∙ ap (λ ys. g x ∷ ys) (map_alike f g xs same)

-- a step that is left
module _ (numbers : List ℕ) (dropped : ℕ → Bool) (same : (p : ℕ) → number_in numbers p ≡ number_left dropped p) where
  left_first : (n : ℕ) (flag : Bool) (step : Step) (later : List Step) → dropped n ≡ not flag
      → one_left numbers flag (Some step) ++ later
      ≡ (if dropped n then later
      else (step_form.with_premises step (map (number_left dropped) step.premises) ∷ later))
  left_first n flag step later e =
      by flag
      ∙ sym (ap (λ b. if b then later
      else (step_form.with_premises step (map (number_left dropped) step.premises) ∷ later)) e)
    where
      by : (f : Bool) → one_left numbers f (Some step) ++ later
          ≡ (if not f then later
          else (step_form.with_premises step (map (number_left dropped) step.premises) ∷ later))
      by true =
          ap (λ premises. step_form.with_premises step premises ∷ later)
          (map_alike (number_in numbers) (number_left dropped) step.premises same)
      by false = refl

  -- all that are left, of the first steps of a list
  pub left_is_without : (all steps : List Step) (n : ℕ) (flags : List Bool) → length flags ≡ length steps
      → ((i k : ℕ) → i < length steps → k ≡ n + i → slice_get all k ≡ slice_get steps i)
      → Matches dropped (suc n) flags → all_left numbers all n flags ≡ without step_form dropped (suc n) steps
  left_is_without all [] n [] long at match = refl
  left_is_without all (step ∷ steps) n [] long at match = absurd (omega (arith, long))
  left_is_without all [] n (flag ∷ flags) long at match = absurd (omega (arith, long))
  left_is_without all (step ∷ steps) n (flag ∷ flags) long at match =
      ap (λ o. one_left numbers flag o ++ all_left numbers all (suc n) flags) (at 0 n (omega arith) (omega arith))
      ∙ (ap (λ later. one_left numbers flag (Some step) ++ later)
      (left_is_without all steps (suc n) flags (omega (arith, long))
      (λ i k low is. at (suc i) k (omega (arith, low)) (omega (arith, is))) match.1)
      ∙ left_first (suc n) flag step (without step_form dropped (suc (suc n)) steps) match.0)

length_needed : (ending : List ℕ) (n : ℕ) (steps : List Step) → length (needed ending n steps) ≡ length steps
length_needed ending n [] = refl
length_needed ending n (step ∷ steps) = ap (λ k. suc k) (length_needed ending (suc n) steps)

-- what is left of the first steps by their flags
pub left_of_front : (ending : List ℕ) (all steps : List Step) (flags : List Bool) → flags ≡ needed ending 1 steps
    → ((k : ℕ) → k < length steps → slice_get all k ≡ slice_get steps k)
    → all_left (counted 0 flags) all 0 flags ≡ trimmed ending steps
left_of_front ending all steps flags is at =
    let long : length flags ≡ length steps = ap (λ fs. length fs) is ∙ length_needed ending 1 steps in
    left_is_without (counted 0 flags) (is_vain flags) (number_is_left flags) all steps 0 flags long
    (λ i k low e. let same : i ≡ k = omega (arith, e) in
    ap (λ j. slice_get all j) (sym same) ∙ at i low) (all_match flags)
    ∙ ap (λ fs. without step_form (is_vain fs) 1 steps) is

pub ending_left : (ending : List ℕ) (steps : List Step) (flags : List Bool) → flags ≡ needed ending 1 steps
    → map (number_in (counted 0 flags)) ending ≡ numbers_left ending steps
ending_left ending steps flags is =
    map_alike (number_in (counted 0 flags)) (number_left (is_vain flags)) ending (number_is_left flags)
    ∙ ap (λ fs. map (number_left (is_vain fs)) ending) is

pub trimmed_told : (ending : List ℕ) (all : List Step) (count : ℕ) (flags : List Bool) (left : Trimmed)
    → count ≤ length all → flags ≡ needed ending 1 (take count all)
    → left.steps ≡ all_left (counted 0 flags) all 0 flags → left.ending ≡ map (number_in (counted 0 flags)) ending
    → left ≡ trimmed_for ending (take count all)
trimmed_told ending all count flags left low is steps numbers =
    let long : length (take count all) ≡ count = length-take-le count all low in
    put left.steps left.ending (trimmed ending (take count all)) (numbers_left ending (take count all))
    (steps ∙ left_of_front ending all (take count all) flags is
    (λ k inside. sym (in_front all count k (omega (arith, inside, long)))))
    (numbers ∙ ending_left ending (take count all) flags is)
  where
    with : List Step → List ℕ → Trimmed
    with s e = record { steps = s; ending = e }

    put : (s : List Step) (e : List ℕ) (t : List Step) (f : List ℕ) → s ≡ t → e ≡ f → with s e ≡ with t f
    put s e t f same also = ap (λ x. with x e) same ∙ ap (λ y. with t y) also

-- nothing is put where the step isn't flagged, or isn't there
pub none_put : (numbers : List ℕ) (flag : Bool) (step : Option Step) (steps : List Step) → flag ≡ false
    → steps ≡ steps ++ one_left numbers flag step
none_put numbers flag step steps e =
    sym (append-nil steps) ∙ ap (λ f. steps ++ one_left numbers f step) (sym e)

pub none_there_put : (numbers : List ℕ) (flag : Bool) (all : List Step) (n : ℕ) (steps : List Step) → length all ≤ n
    → steps ≡ steps ++ one_left numbers flag (slice_get all n)
none_there_put numbers flag all n steps low =
    sym (append-nil steps)
    ∙ ap (λ s. steps ++ s) (sym (ap (one_left numbers flag) (behind all n low) ∙ by flag))
  where
    behind : (xs : List Step) (k : ℕ) → length xs ≤ k → slice_get xs k ≡ None
    behind [] zero h = refl
    behind [] (suc k) h = refl
    behind (x ∷ xs) zero h = absurd (omega (arith, h))
    behind (x ∷ xs) (suc k) h = behind xs k (omega (arith, h))

    by : (b : Bool) → one_left numbers b None ≡ []
    by true = refl
    by false = refl

-- the chain of a step
pub chain_told : (all : List Step) (place count k : ℕ) (left : Trimmed) → place < length all → count ≡ place + 1
    → k ≡ place + 1 → left ≡ trimmed_for (k ∷ []) (take count all)
    → left.steps ≡ trimmed_chain (take (suc place) all)
chain_told all place count k left low many number is =
    let front = take (suc place) all in
    let long : length front ≡ suc place = length-take-le (suc place) all (omega (arith, low)) in
    let same : count ≡ suc place = omega (arith, many) in
    let last : k ≡ length front = omega (arith, number, long) in
    ap (λ (l : Trimmed). l.steps) is
    ∙ (ap (λ n. trimmed (k ∷ []) (take n all)) same ∙ ap (λ j. trimmed (j ∷ []) front) last)
