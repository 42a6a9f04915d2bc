-- The entries of a number's values in the order in which they were met.
use Rattle.std.specs.Prelude.{Bool, ◌-◌, ◌&&◌, List, [], ◌∷◌, ◌++◌, Option, length, slice_get, if◌then◌else◌}
use Rattle.std.specs.List.{list_any}
use Rattle.std.specs.Ordering.{int_eq}
use Rattle.vc_model_scope.specs.declared.entries.Interval.{Interval}

-- the ends are the same
abbrev pub same_entry : Interval → Interval → Bool
same_entry a b = int_eq a.low.millionths b.low.millionths && int_eq a.high.millionths b.high.millionths

-- the entry is one of them
abbrev pub lists_entry : List Interval → Interval → Bool
lists_entry entries entry = list_any (same_entry entry) entries

-- the entry last, unless it is there
abbrev pub with_entry : List Interval → Interval → List Interval
with_entry entries entry = if lists_entry entries entry then entries else entries ++ entry ∷ []

-- the one met last
abbrev pub last_entry : List Interval → Option Interval
last_entry entries = slice_get entries (length entries - 1)
