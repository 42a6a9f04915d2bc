-- How the cells of rows stand to each other, and to values that are looked up among them.
use Rattle.std.specs.Prelude.{ℕ, ℤ, pos, List, map, slice_get, Option, None, Some}
use Rattle.std.specs.Cmp.Lexicographic.{slice_cmp}
use Rattle.std.specs.Ordering.{int_cmp, nat_cmp, ordering_then}
use Rattle.std.specs.declared.cmp.Ordering.{Ordering}
use Rattle.vc_value.specs.declared.value.Value.{Value}
use Rattle.vc_value.specs.declared.value.Value.TheVariants as of_value
use Rattle.vc_proc_look_ups.specs.declared.ranks.Rank.{Rank}
use Rattle.vc_proc_look_ups.specs.declared.ranks.Rank.TheVariants.{Missing, Text, Number, Unknown}

-- ranks by their kinds, then texts by their numbers and numbers by their size
abbrev pub kind_of : Rank → ℕ
kind_of Missing = 0
kind_of (Text t) = 1
kind_of (Number a) = 2
kind_of Unknown = 3

abbrev pub count_of : Rank → ℤ
count_of Missing = pos 0
count_of (Text t) = pos t
count_of (Number a) = a.millionths
count_of Unknown = pos 0

abbrev pub compared : Rank → Rank → Ordering
compared a b = ordering_then (nat_cmp (kind_of a) (kind_of b)) (int_cmp (count_of a) (count_of b))

-- the rank of a cell, and that of a term's value
abbrev pub cell_rank : Option Value → Rank
cell_rank None = Missing
cell_rank (Some (of_value.Text t)) = Text t
cell_rank (Some (of_value.Num a)) = Number (record { millionths = a.millionths })

abbrev pub value_rank : Option Value → Rank
value_rank None = Unknown
value_rank (Some a) = cell_rank (Some a)

-- rows by the ranks of their cells in columns
abbrev pub ranks_of : List ℕ → List Value → List Rank
ranks_of columns row = map (λ c. cell_rank (slice_get row c)) columns

abbrev pub rows_compared : List ℕ → List Value → List Value → Ordering
rows_compared columns row other = slice_cmp compared (ranks_of columns row) (ranks_of columns other)
