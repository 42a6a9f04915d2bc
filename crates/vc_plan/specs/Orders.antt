-- Lists in order, without doubles, and numbers that may be missing.
use Rattle.std.specs.Prelude.{ℕ, Bool, true, false, not, ◌&&◌, ◌==◌, List, [], ◌∷◌, Option, None, Some}
use Rattle.std.specs.List.{list_all, list_any}

-- whether no two of a list are the same
abbrev pub are_apart : {X : Type 0} → (X → X → Bool) → List X → Bool
are_apart same [] = true
are_apart same (x ∷ xs) = not (list_any (same x) xs) && are_apart same xs

-- whether each comes before all that follow it
abbrev pub are_in_order : {X : Type 0} → (X → X → Bool) → List X → Bool
are_in_order before [] = true
are_in_order before (x ∷ xs) = list_all (before x) xs && are_in_order before xs

-- whether two lists of numbers are the same
abbrev pub same_numbers : List ℕ → List ℕ → Bool
same_numbers [] [] = true
same_numbers [] (y ∷ ys) = false
same_numbers (x ∷ xs) [] = false
same_numbers (x ∷ xs) (y ∷ ys) = (x == y) && same_numbers xs ys

abbrev pub same_number_if : Option ℕ → Option ℕ → Bool
same_number_if None None = true
same_number_if None (Some j) = false
same_number_if (Some i) None = false
same_number_if (Some i) (Some j) = i == j

-- whether it is this number
abbrev pub is_number : ℕ → Option ℕ → Bool
is_number i None = false
is_number i (Some j) = i == j
