-- What is left of steps where some are flagged, and the numbers of it.
use Rattle.std.specs.Prelude.{ℕ, zero, suc, ◌-◌, Bool, true, false, if◌then◌else◌, List, [], ◌∷◌, ◌++◌, length, map}
use Rattle.std.specs.Prelude.{slice_get, slice_index_or, Option, None, Some}
use Rattle.vc_plan.specs.declared.atoms.Step.{Step}

-- one more, if a step is flagged
abbrev pub raised : Bool → ℕ → ℕ
raised flag n = if flag then suc n else n

-- by step how many are flagged up to it, where so many are before
abbrev pub counted : ℕ → List Bool → List ℕ
counted n [] = []
counted n (flag ∷ flags) = raised flag n ∷ counted (raised flag n) flags

-- the last of these numbers, and the number of a step past them: as many less as steps are left out
abbrev pub last_in : List ℕ → ℕ
last_in numbers = slice_index_or numbers (length numbers - 1) 0

abbrev pub number_past : List ℕ → ℕ → ℕ
number_past numbers k = k - (length numbers - last_in numbers)

-- the new number of a step; number 0 stays
abbrev pub new_number : List ℕ → ℕ → Option ℕ → ℕ
new_number numbers k None = number_past numbers k
new_number numbers k (Some new) = new

abbrev pub number_in : List ℕ → ℕ → ℕ
number_in numbers zero = zero
number_in numbers (suc n) = new_number numbers (suc n) (slice_get numbers n)

-- a step with new numbers
abbrev pub with_numbers : List ℕ → Step → Step
with_numbers numbers step = record step { premises = map (number_in numbers) step.premises }

-- it, if it is flagged and there; and all of the steps from one on that are
abbrev pub one_left : List ℕ → Bool → Option Step → List Step
one_left numbers false step = []
one_left numbers true None = []
one_left numbers true (Some step) = with_numbers numbers step ∷ []

abbrev pub all_left : List ℕ → List Step → ℕ → List Bool → List Step
all_left numbers steps n [] = []
all_left numbers steps n (flag ∷ flags) =
    one_left numbers flag (slice_get steps n) ++ all_left numbers steps (suc n) flags
