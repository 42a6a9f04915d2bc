-- Numbers that are met, each once.
use Rattle.std.specs.Prelude.{ℕ, ◌==◌, if◌then◌else◌, List, [], ◌∷◌, ◌++◌}
use Rattle.std.specs.List.{list_any}

abbrev pub with_number : List ℕ → ℕ → List ℕ
with_number numbers n = if list_any (λ m. n == m) numbers then numbers else (numbers ++ n ∷ [])

abbrev pub with_numbers : List ℕ → List ℕ → List ℕ
with_numbers numbers [] = numbers
with_numbers numbers (n ∷ more) = with_numbers (with_number numbers n) more
