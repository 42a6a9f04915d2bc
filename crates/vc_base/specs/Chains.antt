-- Lists of steps, each with a conclusion and the numbers of the steps that it follows from. Steps are numbered from 1;
-- number 0 is what stands from the start.
use Rattle.std.specs.Prelude.{ℕ, zero, suc, Bool, true, false, ◌&&◌, ◌||◌, ◌==◌, if◌then◌else◌, nat_lt, List, [], ◌∷◌}
use Rattle.std.specs.Prelude.{◌++◌, length, map, slice_get, Option, None, Some}
use Rattle.std.specs.List.{list_any, list_all}

-- how steps are read: what a step concludes, the numbers of its premises, and the same step with other numbers
pub record StepForm (S A : Type 0) : Type 0 where
  pub conclusion : S → A
  pub premises : S → List ℕ
  pub with_premises : S → List ℕ → S

-- what the steps conclude
abbrev pub conclusions : {S A : Type 0} → StepForm S A → List S → List A
conclusions form steps = map form.conclusion steps

-- an element before others, where all are there
abbrev pub before_all : {X : Type 0} → Option X → Option (List X) → Option (List X)
before_all None xs = None
before_all (Some x) None = None
before_all (Some x) (Some xs) = Some (x ∷ xs)

-- what numbers cite: the conclusions of the steps of these numbers, where each is there. Number 0 cites no step
abbrev pub cited : {A : Type 0} → List A → List ℕ → Option (List A)
cited earlier [] = Some []
cited earlier (zero ∷ numbers) = cited earlier numbers
cited earlier (suc n ∷ numbers) = before_all (slice_get earlier n) (cited earlier numbers)

-- whether all are there and pass the test
abbrev pub all_pass : {A : Type 0} → (List A → Bool) → Option (List A) → Bool
all_pass test None = false
all_pass test (Some atoms) = test atoms

-- whether the step follows from what it cites of the earlier conclusions; `follows` says what follows from what
abbrev pub is_justified : {S A : Type 0} → StepForm S A → (S → List A → Bool) → List A → S → Bool
is_justified form follows earlier step = all_pass (follows step) (cited earlier (form.premises step))

-- whether each step follows from what it cites of the steps before it
abbrev pub accepted : {S A : Type 0} → StepForm S A → (S → List A → Bool) → List A → List S → Bool
accepted form follows earlier [] = true
accepted form follows earlier (step ∷ steps) =
    is_justified form follows earlier step && accepted form follows (earlier ++ form.conclusion step ∷ []) steps

-- the number of the first step that doesn't
abbrev pub first_refused : {S A : Type 0} → StepForm S A → (S → List A → Bool) → List A → List S → Option ℕ
first_refused form follows earlier [] = None
first_refused form follows earlier (step ∷ steps) =
    let later = first_refused form follows (earlier ++ form.conclusion step ∷ []) steps in
    if is_justified form follows earlier step then later else Some (suc (length earlier))

-- whether each step, of which the first has this number, cites only steps before it
abbrev pub cites_earlier : {S A : Type 0} → StepForm S A → ℕ → List S → Bool
cites_earlier form n [] = true
cites_earlier form n (step ∷ steps) = list_all (λ k. nat_lt k n) (form.premises step)
    && cites_earlier form (suc n) steps

-- whether the number is among these
abbrev pub is_among : ℕ → List ℕ → Bool
is_among n numbers = list_any (λ k. k == n) numbers

-- whether each step, of which the first has this number, is a premise of a later one or of the ending
abbrev pub are_cited : {S A : Type 0} → StepForm S A → List ℕ → ℕ → List S → Bool
are_cited form ending n [] = true
are_cited form ending n (step ∷ later) =
    (is_among n ending || list_any (λ s. is_among n (form.premises s)) later) && are_cited form ending (suc n) later

-- whether each step but the last is a premise of a later one: the last is what the list is for
abbrev pub is_trimmed : {S A : Type 0} → StepForm S A → List S → Bool
is_trimmed form steps = are_cited form (length steps ∷ []) 1 steps
