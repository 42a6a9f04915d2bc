-- Names in the order in which they were met.
use Rattle.std.specs.Prelude.{ℕ, Bool, List, [], ◌∷◌, ◌++◌, Option, position, nat_eq, if◌then◌else◌}
use Rattle.std.specs.List.{list_any}
use Rattle.std.specs.Cmp.Lexicographic.{pointwise}

-- the name is one of them
abbrev pub is_among : List (List ℕ) → List ℕ → Bool
is_among names name = list_any (pointwise nat_eq name) names

-- the name's number, counted from 0
abbrev pub place_of : List (List ℕ) → List ℕ → Option ℕ
place_of names name = position (pointwise nat_eq name) names

-- the name last, unless it is there
abbrev pub with_name : List (List ℕ) → List ℕ → List (List ℕ)
with_name names name = if is_among names name then names else names ++ name ∷ []
