-- Pieces that follow each other without a gap in one entry of a list, joined into one.
use Rattle.std.specs.Prelude.{ℕ, pos, ◌+ℤ◌, Bool, false, ◌&&◌, if◌then◌else◌, List, [], ◌∷◌, Option, None, Some}
use Rattle.std.specs.List.{list_any}
use Rattle.std.specs.Ordering.{int_eq}
use Rattle.vc_plan.specs.declared.conditions.Piece.{Piece}
use Rattle.vc_plan.specs.declared.conditions.Piece.TheVariants.{OneText, Stretch}
use Rattle.vc_plan.specs.Pieces.{is_part}

-- whether the second begins with the number after the last of the first, of which this is the unit
abbrev pub follows : ℕ → Piece → Piece → Bool
follows unit (OneText s) next = false
follows unit (Stretch a) (OneText t) = false
follows unit (Stretch a) (Stretch b) = int_eq b.low.millionths (a.high.millionths +ℤ pos unit)

-- whether an entry has both
abbrev pub has_both : Piece → Piece → Piece → Bool
has_both piece next entry = is_part piece entry && is_part next entry

abbrev pub goes_on : ℕ → List Piece → Piece → Piece → Bool
goes_on unit entries piece next = follows unit piece next && list_any (has_both piece next) entries

-- from the first number of the one to the last of the other
abbrev pub hull : Piece → Piece → Piece
hull (OneText s) next = next
hull (Stretch a) (OneText t) = OneText t
hull (Stretch a) (Stretch b) = Stretch (record { low = a.low; high = b.high })

-- pieces after this one, joined to it as long as they go on
abbrev pub joined_from : ℕ → List Piece → Piece → List Piece → List Piece
joined_from unit entries piece [] = piece ∷ []
joined_from unit entries piece (next ∷ pieces) =
    let on = joined_from unit entries (hull piece next) pieces in
    let apart = piece ∷ joined_from unit entries next pieces in
    if goes_on unit entries piece next then on else apart

abbrev pub joined_after : ℕ → List Piece → Option Piece → List Piece → List Piece
joined_after unit entries None [] = []
joined_after unit entries None (piece ∷ pieces) = joined_from unit entries piece pieces
joined_after unit entries (Some piece) pieces = joined_from unit entries piece pieces

abbrev pub joined : ℕ → List Piece → List Piece → List Piece
joined unit entries pieces = joined_after unit entries None pieces
