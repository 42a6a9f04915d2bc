-- Numbers that are marked, by a mark for each number.
use Rattle.std.specs.Prelude.{ℕ, ◌+◌, Bool, true, if◌then◌else◌, List, [], ◌∷◌, slice_set}

abbrev pub mark_all : List Bool → List ℕ → List Bool
mark_all marks [] = marks
mark_all marks (d ∷ ds) = mark_all (slice_set marks d true) ds

-- the numbers that are marked, where the first mark is that of n
abbrev pub marked_from : ℕ → List Bool → List ℕ
marked_from n [] = []
marked_from n (marked ∷ marks) = if marked then (n ∷ marked_from (n + 1) marks) else marked_from (n + 1) marks
