-- Lists of numbers, one after another.
use Rattle.std.specs.Prelude.{ℕ, ◌+◌, ◌-◌, List, [], ◌∷◌, ◌++◌, drop, length, take}
use Rattle.vc_net_readers.specs.declared.lists.Span.{Span}

-- the numbers of a list
abbrev pub numbers_in : List ℕ → Span → List ℕ
numbers_in numbers span = take (span.end - span.begin) (drop span.begin numbers)

-- where each list begins and ends, the first at the place, and the numbers of all
abbrev pub spans_from : ℕ → List (List ℕ) → List Span
spans_from n [] = []
spans_from n (list ∷ lists) = record { begin = n; end = n + length list } ∷ spans_from (n + length list) lists

abbrev pub all_numbers : List (List ℕ) → List ℕ
all_numbers [] = []
all_numbers (list ∷ lists) = list ++ all_numbers lists
