-- Grains: closed intervals of numbers that ascend and share no number.
use Rattle.std.specs.Prelude.{◌-◌, ◌^◌, ℕ, ℤ, pos, ◌+ℤ◌, ◌-ℤ◌, Bool, true, ◌&&◌, ◌||◌, List, [], ◌∷◌, ◌++◌, flat_map}
use Rattle.std.specs.Prelude.{if◌then◌else◌}
use Rattle.std.specs.List.{list_all, list_any}
use Rattle.std.specs.Int.{int_min, int_max, int_rem_euclid}
use Rattle.std.specs.Int.Signed.{lt_z, le_z}
use Rattle.std.specs.Ordering.{int_eq}
use Rattle.vc_value.specs.declared.decimal.Dec.{Dec}
use Rattle.vc_value.specs.declared.grains.Grain.{Grain}

-- the numbers from one count of millionths to another
abbrev pub interval : ℤ → ℤ → Grain
interval low high = record { low = record { millionths = low }; high = record { millionths = high } }

-- the number is one of the grain's
abbrev pub holds : Dec → Grain → Bool
holds n grain = le_z grain.low.millionths n.millionths && le_z n.millionths grain.high.millionths

-- all numbers of the grain lie below the other number
abbrev pub is_below : Dec → Grain → Bool
is_below n grain = lt_z grain.high.millionths n.millionths

-- the first number isn't above the last
abbrev pub is_ordered : Grain → Bool
is_ordered grain = le_z grain.low.millionths grain.high.millionths

-- each grain is ordered, and lies below all that follow it
abbrev pub is_ascending : List Grain → Bool
is_ascending [] = true
is_ascending (grain ∷ grains) = is_ordered grain
    && (list_all (λ later. is_below later.low grain) grains && is_ascending grains)

-- one at the last of these decimals, in millionths
abbrev pub unit_of : ℕ → ℕ
unit_of decimals = 10 ^ (6 - decimals)

-- a count of millionths that is a whole number of units
abbrev pub is_multiple : ℕ → ℤ → Bool
is_multiple unit millionths = int_eq (int_rem_euclid millionths (pos unit)) (pos 0)

-- the number has no more decimals than these
abbrev pub has_decimals : ℕ → Dec → Bool
has_decimals decimals n = is_multiple (unit_of decimals) n.millionths

-- the greatest whole number of units below the count
abbrev pub next_below : ℕ → ℤ → ℤ
next_below unit at = let rest = int_rem_euclid at (pos unit) in at -ℤ (if int_eq rest (pos 0) then pos unit else rest)

-- the least whole number of units above the count
abbrev pub next_above : ℕ → ℤ → ℤ
next_above unit at = (at -ℤ int_rem_euclid at (pos unit)) +ℤ pos unit

-- what the grain has between two counts of millionths: one grain, or none
abbrev pub part_between : ℤ → ℤ → Grain → List Grain
part_between low high grain =
    let from = int_max grain.low.millionths low in
    let to = int_min grain.high.millionths high in
    if le_z from to then interval from to ∷ [] else []

-- the numbers of the grain below the cut
abbrev pub part_below : ℕ → ℤ → Grain → List Grain
part_below unit at grain = part_between grain.low.millionths (next_below unit at) grain

-- the cut itself, if it is a whole number of units that the grain has
abbrev pub part_at : ℕ → ℤ → Grain → List Grain
part_at unit at grain = if is_multiple unit at then part_between at at grain else []

-- the numbers of the grain above the cut
abbrev pub part_above : ℕ → ℤ → Grain → List Grain
part_above unit at grain = part_between (next_above unit at) grain.high.millionths grain

-- the grain in its parts, of which some may be missing
abbrev pub parts_of : ℕ → ℤ → Grain → List Grain
parts_of unit at grain = (part_below unit at grain ++ part_at unit at grain) ++ part_above unit at grain

-- each grain in its parts
abbrev pub cut_at : ℕ → Dec → List Grain → List Grain
cut_at decimals at grains = flat_map (parts_of (unit_of decimals) at.millionths) grains

-- the grain lies below the number, is the number, or lies above it
abbrev pub is_apart : Dec → Grain → Bool
is_apart n grain = is_below n grain
    || (lt_z n.millionths grain.low.millionths
    || (int_eq grain.low.millionths n.millionths && int_eq grain.high.millionths n.millionths))

-- one of the grains holds the number
abbrev pub hold : Dec → List Grain → Bool
hold n grains = list_any (holds n) grains
