-- Values, and how pieces and values stand to each other.
use Rattle.std.specs.Prelude.{ℤ, Bool, false, not, ◌&&◌, ◌||◌, ◌==◌, if◌then◌else◌, List, Option, None, Some}
use Rattle.std.specs.List.{list_any}
use Rattle.std.specs.Int.Signed.{lt_z, le_z}
use Rattle.std.specs.Ordering.{int_eq}
use Rattle.vc_value.specs.Grains.{interval}
use Rattle.vc_value.specs.Grains as grains
use Rattle.vc_value.specs.declared.value.Value.{Value}
use Rattle.vc_value.specs.declared.value.Value.TheVariants.{Text, Num}
use Rattle.vc_plan.specs.declared.conditions.Piece.{Piece}
use Rattle.vc_plan.specs.declared.conditions.Piece.TheVariants.{OneText, Stretch}
use Rattle.vc_plan.specs.declared.conditions.Relation.{Relation}
use Rattle.vc_plan.specs.declared.conditions.Relation.TheVariants.{Equal, Unequal, Less, AtMost, Greater, AtLeast}

-- whether two values are one
abbrev pub same_value : Value → Value → Bool
same_value (Text s) (Text t) = s == t
same_value (Text s) (Num b) = false
same_value (Num a) (Text t) = false
same_value (Num a) (Num b) = int_eq a.millionths b.millionths

-- whether the value lies in the piece
abbrev pub lies_in : Value → Piece → Bool
lies_in (Text t) (OneText s) = s == t
lies_in (Text t) (Stretch grain) = false
lies_in (Num a) (OneText s) = false
lies_in (Num a) (Stretch grain) = grains.holds a grain

-- whether it lies in one of the pieces
abbrev pub lies_in_some : List Piece → Value → Bool
lies_in_some pieces a = list_any (lies_in a) pieces

-- whether the second piece has all that the first has
abbrev pub is_part : Piece → Piece → Bool
is_part (OneText s) (OneText t) = s == t
is_part (OneText s) (Stretch whole) = false
is_part (Stretch part) (OneText t) = false
is_part (Stretch part) (Stretch whole) =
    le_z whole.low.millionths part.low.millionths && le_z part.high.millionths whole.high.millionths

-- the piece that has this value alone
abbrev pub piece_of : Value → Piece
piece_of (Text t) = OneText t
piece_of (Num a) = Stretch (interval a.millionths a.millionths)

-- the value of a piece that has one alone
abbrev pub one_value : Piece → Option Value
one_value (OneText t) = Some (Text t)
one_value (Stretch grain) = if int_eq grain.low.millionths grain.high.millionths then Some (Num grain.low) else None

-- the relation that holds exactly where this one doesn't
abbrev pub opposite : Relation → Relation
opposite Equal = Unequal
opposite Unequal = Equal
opposite Less = AtLeast
opposite AtMost = Greater
opposite Greater = AtMost
opposite AtLeast = Less

-- the relation with its sides changed
abbrev pub turned : Relation → Relation
turned Equal = Equal
turned Unequal = Unequal
turned Less = Greater
turned AtMost = AtLeast
turned Greater = Less
turned AtLeast = AtMost

-- how a text stands to another thing that it is, or isn't; there is no order of texts
abbrev pub text_relates : Relation → Bool → Bool
text_relates Equal same = same
text_relates Unequal same = not same
text_relates Less same = false
text_relates AtMost same = false
text_relates Greater same = false
text_relates AtLeast same = false

-- whether all numbers from the first to the second stand in the relation to the third
abbrev pub numbers_relate : Relation → ℤ → ℤ → ℤ → Bool
numbers_relate Equal low high a = int_eq low a && int_eq high a
numbers_relate Unequal low high a = lt_z high a || lt_z a low
numbers_relate Less low high a = lt_z high a
numbers_relate AtMost low high a = le_z high a
numbers_relate Greater low high a = lt_z a low
numbers_relate AtLeast low high a = le_z a low

-- whether all that the piece has stands in the relation to the value
abbrev pub is_inside : Relation → Value → Piece → Bool
is_inside r (Text t) (OneText s) = text_relates r (s == t)
is_inside r (Text t) (Stretch grain) = text_relates r false
is_inside r (Num a) (OneText s) = text_relates r false
is_inside r (Num a) (Stretch grain) = numbers_relate r grain.low.millionths grain.high.millionths a.millionths

-- whether nothing that the piece has stands in the relation to the value
abbrev pub is_outside : Relation → Value → Piece → Bool
is_outside r a piece = is_inside (opposite r) a piece

-- whether the first value stands in the relation to the second
abbrev pub relates : Relation → Value → Value → Bool
relates r a b = is_inside r b (piece_of a)
