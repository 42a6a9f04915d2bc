-- What is left of a list of steps when some are gone, and with them all that needs them.
use Rattle.std.specs.Prelude.{◌≡◌, ℕ, zero, suc, Bool, true, false, ◌||◌, if◌then◌else◌, List, [], ◌∷◌, ◌++◌, map}
use Rattle.std.specs.Prelude.{slice_get, Option, None, Some}
use Rattle.std.specs.List.{list_any}
use Rattle.vc_base.specs.Chains.{StepForm, before_all}

-- the new number of a step, where it was kept
abbrev pub kept_number : Option (Option ℕ) → Option ℕ
kept_number None = None
kept_number (Some number) = number

-- the new numbers of premises, where each step was kept; number 0 stays
abbrev pub new_numbers : List (Option ℕ) → List ℕ → Option (List ℕ)
new_numbers numbers [] = Some []
new_numbers numbers (zero ∷ premises) = before_all (Some zero) (new_numbers numbers premises)
new_numbers numbers (suc n ∷ premises) = before_all (kept_number (slice_get numbers n)) (new_numbers numbers premises)

-- the new premises of a step that is kept: it isn't gone, and its premises were kept
abbrev pub new_premises : {S A : Type 0} → StepForm S A → (S → Bool) → List (Option ℕ) → S → Option (List ℕ)
new_premises form gone numbers step =
    let premises = new_numbers numbers (form.premises step) in if gone step then None else premises

-- a step with its new premises before those kept later, if it is kept
abbrev pub with_step : {S A : Type 0} → StepForm S A → S → Option (List ℕ) → List S → List S
with_step form step None later = later
with_step form step (Some premises) later = form.with_premises step premises ∷ later

-- its number, and how many are kept with it
abbrev pub number_for : Option (List ℕ) → ℕ → Option ℕ
number_for None count = None
number_for (Some premises) count = Some (suc count)

abbrev pub count_with : Option (List ℕ) → ℕ → ℕ
count_with None count = count
count_with (Some premises) count = suc count

-- what is kept of steps: those that aren't gone and whose premises are kept, renumbered. The new numbers of the steps
-- before
-- them are given, and how many of those are kept
abbrev pub kept : {S A : Type 0} → StepForm S A → (S → Bool) → List (Option ℕ) → ℕ → List S → List S
kept form gone numbers count [] = []
kept form gone numbers count (step ∷ steps) =
    let premises = new_premises form gone numbers step in
    with_step form step premises
    (kept form gone (numbers ++ number_for premises count ∷ []) (count_with premises count) steps)

-- whether a step of this number is in the set; number 0 is no step
abbrev pub has_step : (ℕ → Bool) → ℕ → Bool
has_step set zero = false
has_step set (suc n) = set (suc n)

-- whether the step is to be dropped where these numbers are: it is gone, or a premise of it is dropped
abbrev pub is_to_drop : {S A : Type 0} → StepForm S A → (S → Bool) → (ℕ → Bool) → S → Bool
is_to_drop form gone dropped step = gone step || list_any (has_step dropped) (form.premises step)

-- the set of numbers has each step that is to be dropped; the first step has this number
abbrev pub IsDropping : {S A : Type 0} → StepForm S A → (S → Bool) → (ℕ → Bool) → ℕ → List S → Type 0
IsDropping form gone dropped n [] = Unit {0}
IsDropping form gone dropped n (step ∷ steps) =
    (is_to_drop form gone dropped step ≡ true → dropped n ≡ true) × IsDropping form gone dropped (suc n) steps

-- how many numbers from 1 to this one aren't dropped: the new number of a step that isn't
abbrev pub number_left : (ℕ → Bool) → ℕ → ℕ
number_left dropped zero = zero
number_left dropped (suc n) = let before = number_left dropped n in if dropped (suc n) then before else suc before

-- the steps without those dropped, renumbered; the first has this number
abbrev pub without : {S A : Type 0} → StepForm S A → (ℕ → Bool) → ℕ → List S → List S
without form dropped n [] = []
without form dropped n (step ∷ steps) =
    let later = without form dropped (suc n) steps in
    if dropped n then later else form.with_premises step (map (number_left dropped) (form.premises step)) ∷ later

-- the list is what the least set of dropped steps leaves
pub record IsLeft {S A : Type 0} (form : StepForm S A) (gone : S → Bool) (steps left : List S) : Type 0 where
  pub dropped : ℕ → Bool
  pub is : IsDropping form gone dropped 1 steps
  pub least : (other : ℕ → Bool) → IsDropping form gone other 1 steps → (n : ℕ) → dropped n ≡ true → other n ≡ true
  pub rest : left ≡ without form dropped 1 steps
