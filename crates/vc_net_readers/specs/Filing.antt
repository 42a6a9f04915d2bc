-- Lists of rules, to which a rule is put at several places, each time once.
use Rattle.std.specs.Prelude.{ℕ, zero, suc, ◌-◌, Bool, false, ◌==◌, if◌then◌else◌, List, [], ◌∷◌, ◌++◌, length}
use Rattle.std.specs.Prelude.{slice_get, slice_set, Option, None, Some}

-- whether the number stands last
abbrev pub is_told : Option ℕ → ℕ → Bool
is_told None n = false
is_told (Some m) n = m == n

abbrev pub ends_with : List ℕ → ℕ → Bool
ends_with list n = is_told (slice_get list (length list - 1)) n

-- with the number put last, unless it stands there
abbrev pub put_once : List ℕ → ℕ → List ℕ
put_once list n = if ends_with list n then list else (list ++ n ∷ [])

-- the list at a place; none where there is no such place
abbrev pub list_or_none : Option (List ℕ) → List ℕ
list_or_none None = []
list_or_none (Some list) = list

abbrev pub list_at : List (List ℕ) → ℕ → List ℕ
list_at lists place = list_or_none (slice_get lists place)

-- the lists with the rule put at a place, if there is one, and at each of several
abbrev pub filed_in : Option (List ℕ) → List (List ℕ) → ℕ → ℕ → List (List ℕ)
filed_in None lists place rule = lists
filed_in (Some list) lists place rule = slice_set lists place (put_once list rule)

abbrev pub filed_at : List (List ℕ) → ℕ → ℕ → List (List ℕ)
filed_at lists place rule = filed_in (slice_get lists place) lists place rule

abbrev pub filed_at_all : List (List ℕ) → List ℕ → ℕ → List (List ℕ)
filed_at_all lists [] rule = lists
filed_at_all lists (place ∷ places) rule = filed_at_all (filed_at lists place rule) places rule

-- the lists with a number put at the places of each of several rules
abbrev pub filed_at_each : (ℕ → List ℕ) → List (List ℕ) → List ℕ → ℕ → List (List ℕ)
filed_at_each places lists [] number = lists
filed_at_each places lists (rule ∷ rules) number =
    filed_at_each places (filed_at_all lists (places rule) number) rules number

-- the first rules, each put at its places
abbrev pub filed_below : (ℕ → List ℕ) → ℕ → List (List ℕ) → List (List ℕ)
filed_below places zero lists = lists
filed_below places (suc n) lists = filed_at_all (filed_below places n lists) (places n) n
