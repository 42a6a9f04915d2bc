-- Variables that are met, each once.
use Rattle.std.specs.Prelude.{ℕ, ◌==◌, if◌then◌else◌, List, [], ◌∷◌, ◌++◌}
use Rattle.std.specs.List.{list_any}

-- with one more, put last unless it is there
abbrev pub with_met : List ℕ → ℕ → List ℕ
with_met met v = if list_any (λ w. v == w) met then met else (met ++ v ∷ [])

-- with these, which are met from the last to the first
abbrev pub met_after : List ℕ → List ℕ → List ℕ
met_after [] met = met
met_after (v ∷ vs) met = with_met (met_after vs met) v
