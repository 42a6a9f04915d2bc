-- The number of a term, and the truth of a condition, at a reading.
use Rattle.std.specs.Prelude.{ℕ, ℤ, ◌==◌, List, [], ◌∷◌, slice_get, Option, None, Some, option_map}
use Rattle.std.specs.List.{list_any}
use Rattle.vc_value.specs.declared.value.Value.{Value}
use Rattle.vc_value.specs.declared.value.Value.TheVariants.{Text, Num}
use Rattle.vc_plan.specs.declared.conditions.Condition.{Condition}
use Rattle.vc_plan.specs.declared.conditions.Condition.TheVariants.{Always, Compared, IsIn, Specified, Holds, Filled}
use Rattle.vc_plan.specs.declared.conditions.Condition.TheVariants.{Not', And', Or'}
use Rattle.vc_plan.specs.declared.conditions.Kleene.{Kleene}
use Rattle.vc_plan.specs.declared.conditions.Kleene.TheVariants.{True, Unknown}
use Rattle.vc_plan.specs.declared.conditions.Piece.{Piece}
use Rattle.vc_plan.specs.declared.conditions.Relation.{Relation}
use Rattle.vc_plan.specs.declared.plans.Plan.{Plan}
use Rattle.vc_plan.specs.declared.terms.Term.{Term}
use Rattle.vc_plan.specs.declared.terms.Term.TheVariants.{Literal, Read, PartSum, PartCount, Applied', Joined'}
use Rattle.vc_plan.specs.Kleene.{truth_of, kleene_not, kleene_and, kleene_or}
use Rattle.vc_plan.specs.Numbers.{applied, joined}
use Rattle.vc_plan.specs.Pieces.{relates, lies_in_some}
use Rattle.vc_plan.specs.Readings.{Reading}

-- the number of a value; a text has none
abbrev pub number_in : Value → Option ℤ
number_in (Text t) = None
number_in (Num a) = Some a.millionths

abbrev pub number_of_value : Option Value → Option ℤ
number_of_value None = None
number_of_value (Some a) = number_in a

-- the value of a number
abbrev pub value_of_number : Option ℤ → Option Value
value_of_number None = None
value_of_number (Some z) = Some (Num (record { millionths = z }))

-- the number of a term, in millionths, where it has one
abbrev pub number : Reading → Term → Option ℤ
number reading (Literal a) = number_in a
number reading (Read v) = number_of_value (reading.value v)
number reading (PartSum slot characteristic) = reading.part_sum slot characteristic
number reading (PartCount slot) = reading.part_count slot
number reading (Applied' function p a) = option_map (applied function) (number reading a)
number reading (Joined' operator p a q b) = joined operator (number reading a) (number reading b)

-- the value of a term, which may be a text where it is a lone literal or variable
abbrev pub term_value : Reading → Term → Option Value
term_value reading (Literal a) = Some a
term_value reading (Read v) = reading.value v
term_value reading (PartSum slot characteristic) = value_of_number (reading.part_sum slot characteristic)
term_value reading (PartCount slot) = value_of_number (reading.part_count slot)
term_value reading (Applied' function p a) = value_of_number (number reading (Applied' function p a))
term_value reading (Joined' operator p a q b) = value_of_number (number reading (Joined' operator p a q b))

-- how two values compare, where both are there
abbrev pub compared : Relation → Option Value → Option Value → Kleene
compared r None b = Unknown
compared r (Some a) None = Unknown
compared r (Some a) (Some b) = truth_of (relates r a b)

-- whether a value lies in one of the pieces, where it is there
abbrev pub is_in : List Piece → Option Value → Kleene
is_in pieces None = Unknown
is_in pieces (Some a) = truth_of (lies_in_some pieces a)

-- whether a value is there
abbrev pub specified : Kleene → Option Value → Kleene
specified unspecified None = unspecified
specified unspecified (Some a) = True

-- whether a set has the text; of an empty one it is unknown
abbrev pub set_holds : ℕ → List ℕ → Kleene
set_holds text [] = Unknown
set_holds text (t ∷ texts) = truth_of (list_any (λ x. x == text) (t ∷ texts))

-- whether a set has a text
abbrev pub set_filled : Kleene → List ℕ → Kleene
set_filled unspecified [] = unspecified
set_filled unspecified (t ∷ texts) = True

-- the truth of a condition
abbrev pub truth : Reading → Condition → Kleene
truth reading Always = True
truth reading (Compared r a b) = compared r (term_value reading a) (term_value reading b)
truth reading (IsIn v pieces) = is_in pieces (reading.value v)
truth reading (Specified v) = specified reading.unspecified (reading.value v)
truth reading (Holds set text) = set_holds text (reading.texts set)
truth reading (Filled set) = set_filled reading.unspecified (reading.texts set)
truth reading (Not' p c) = kleene_not (truth reading c)
truth reading (And' p c q d) = kleene_and (truth reading c) (truth reading d)
truth reading (Or' p c q d) = kleene_or (truth reading c) (truth reading d)

-- the same of a plan's condition and terms by their numbers: what isn't there has no value, and is unknown
abbrev pub truth_in : Reading → Option Condition → Kleene
truth_in reading None = Unknown
truth_in reading (Some c) = truth reading c

abbrev pub value_in_term : Reading → Option Term → Option Value
value_in_term reading None = None
value_in_term reading (Some term) = term_value reading term

abbrev pub truth_at : Plan → Reading → ℕ → Kleene
truth_at plan reading condition = truth_in reading (slice_get plan.conditions condition)

abbrev pub value_at : Plan → Reading → ℕ → Option Value
value_at plan reading term = value_in_term reading (slice_get plan.terms term)
