-- What a restriction of one variable, a comparison and an equation give.
use Rattle.std.specs.Prelude.{ℕ, min, Bool, false, not, ◌&&◌, ◌==◌, if◌then◌else◌, List, [], ◌∷◌, map, slice_get}
use Rattle.std.specs.Prelude.{Option, None, Some, is_none}
use Rattle.std.specs.List.{filter, list_any}
use Rattle.vc_base.specs.Rounds.{Given, clash, atoms}
use Rattle.vc_value.specs.declared.value.Value.{Value}
use Rattle.vc_value.specs.declared.value.Value.TheVariants.{Text, Num}
use Rattle.vc_value.specs.Millionths.{rounded}
use Rattle.vc_plan.specs.declared.atoms.Atom.{Atom}
use Rattle.vc_plan.specs.declared.atoms.Atom.TheVariants.{Out, Is}
use Rattle.vc_plan.specs.declared.conditions.Piece.{Piece}
use Rattle.vc_plan.specs.declared.conditions.Relation.{Relation}
use Rattle.vc_plan.specs.declared.conditions.Relation.TheVariants.{Equal, Unequal, Less, AtMost, Greater, AtLeast}
use Rattle.vc_plan.specs.declared.plans.Plan.{Plan}
use Rattle.vc_plan.specs.declared.rules.Restriction.{Restriction}
use Rattle.vc_plan.specs.declared.rules.Restriction.TheVariants.{Against, OneOf}
use Rattle.vc_plan.specs.declared.rules.Rule.{Rule}
use Rattle.vc_plan.specs.declared.terms.Term.{Term}
use Rattle.vc_plan.specs.declared.terms.Term.TheVariants.{Literal, Read, PartSum, PartCount, Applied', Joined'}
use Rattle.vc_plan.specs.Answers.{nothing, clash_if, clash_if_false, beside, last_atoms, is_nothing}
use Rattle.vc_plan.specs.Domains.{numbers_below, grains_of, count_of, decimals_of, is_restrictable, is_grain_with}
use Rattle.vc_plan.specs.Pieces.{same_value, lies_in_some, is_part, is_inside, is_outside, turned}
use Rattle.vc_plan.specs.Readings.{net_reading}
use Rattle.vc_plan.specs.Seen.{Seen, is_left}
use Rattle.vc_plan.specs.Truth.{compared, value_at}

-- whether the rule may narrow the variable
abbrev pub is_inferred : Rule → ℕ → Bool
is_inferred rule v = list_any (λ w. w == v) rule.inferred

-- the variable's grains that fail the test, and those that are left and pass it
abbrev pub failing : Plan → ℕ → (Piece → Bool) → List ℕ
failing plan v test = filter (λ g. not (is_grain_with plan v test g)) (numbers_below (count_of plan v))

abbrev pub left_with : Plan → Seen → ℕ → (Piece → Bool) → List ℕ
left_with plan seen v test =
    filter (λ g. is_left plan seen v g && is_grain_with plan v test g) (numbers_below (count_of plan v))

-- what follows where these grains alone may stand: a clash where there is none, the value of the one
abbrev pub of_remaining : Plan → ℕ → List ℕ → Given Atom
of_remaining plan v gs = clash_if (is_nothing gs) (atoms (last_atoms plan v gs))

-- the variable is to lie in grains that pass the test: if it is restrictable the others are out; if it isn't, what
-- follows
-- of those that are left and pass
abbrev pub confined : Plan → Seen → ℕ → (Piece → Bool) → Given Atom
confined plan seen v test =
    if is_restrictable plan v
    then atoms (map (Out v) (failing plan v test)) else of_remaining plan v (left_with plan seen v test)

-- the value with so many decimals
abbrev pub rounded_value : ℕ → Value → Value
rounded_value decimals (Text t) = Text t
rounded_value decimals (Num a) = Num (record { millionths = rounded decimals a.millionths })

-- the literal of a restriction: at `=` rounded
abbrev pub literal_for : Relation → ℕ → Value → Value
literal_for Equal decimals a = rounded_value decimals a
literal_for Unequal decimals a = a
literal_for Less decimals a = a
literal_for AtMost decimals a = a
literal_for Greater decimals a = a
literal_for AtLeast decimals a = a

-- whether the piece is inside what the restriction names
abbrev pub allows : Plan → ℕ → Restriction → Piece → Bool
allows plan v (Against r a) piece = is_inside r (literal_for r (decimals_of plan v) a) piece
allows plan v (OneOf pieces) piece = list_any (is_part piece) pieces

-- Among: the variable is restricted against literals
abbrev pub among : Plan → Seen → Rule → ℕ → Restriction → Given Atom
among plan seen rule v restriction =
    let test = allows plan v restriction in
    if is_inferred rule v then confined plan seen v test else clash_if (is_nothing (left_with plan seen v test)) nothing

-- the variable that a term is, if it is one alone
abbrev pub lone_in : Option Term → Option ℕ
lone_in None = None
lone_in (Some (Literal a)) = None
lone_in (Some (Read v)) = Some v
lone_in (Some (PartSum slot characteristic)) = None
lone_in (Some (PartCount slot)) = None
lone_in (Some (Applied' function p a)) = None
lone_in (Some (Joined' operator p a q b)) = None

abbrev pub lone : Plan → ℕ → Option ℕ
lone plan term = lone_in (slice_get plan.terms term)

-- the same where the rule may narrow it
abbrev pub if_inferred : Rule → Option ℕ → Option ℕ
if_inferred rule None = None
if_inferred rule (Some v) = if is_inferred rule v then Some v else None

abbrev pub lone_inferred : Plan → Rule → ℕ → Option ℕ
lone_inferred plan rule term = if_inferred rule (lone plan term)

-- a lone inferred variable is to stand in the relation to the other side's value
abbrev pub related : Plan → Seen → Relation → Option ℕ → Option Value → Given Atom
related plan seen r None a = nothing
related plan seen r (Some v) None = nothing
related plan seen r (Some v) (Some a) = confined plan seen v (λ piece. not (is_outside r a piece))

-- Compare: the first term stands in a relation other than `=` to the second
abbrev pub compare : Plan → Seen → Rule → Relation → ℕ → ℕ → Given Atom
compare plan seen rule r a b =
    let first = value_at plan (net_reading seen) a in
    let second = value_at plan (net_reading seen) b in
    clash_if_false (compared r first second)
    (beside (related plan seen r (lone_inferred plan rule a) second)
    (related plan seen (turned r) (lone_inferred plan rule b) first))

-- a lone inferred variable has the value, rounded; a clash where no grain holds it
abbrev pub assigned : Plan → ℕ → Value → Given Atom
assigned plan v a = if lies_in_some (grains_of plan v) a then atoms (Is v a ∷ []) else clash

abbrev pub equal_to : Plan → Option ℕ → Option Value → Given Atom
equal_to plan None a = nothing
equal_to plan (Some v) None = nothing
equal_to plan (Some v) (Some a) = assigned plan v (rounded_value (decimals_of plan v) a)

-- the decimals of a side that is a lone variable; 6 where it isn't one
abbrev pub decimals_in_side : Plan → Option ℕ → ℕ
decimals_in_side plan None = 6
decimals_in_side plan (Some v) = decimals_of plan v

-- whether both values are there and differ with so many decimals
abbrev pub differ : ℕ → Option Value → Option Value → Bool
differ decimals None b = false
differ decimals (Some a) None = false
differ decimals (Some a) (Some b) = not (same_value (rounded_value decimals a) (rounded_value decimals b))

-- Equate: both terms are equal
abbrev pub equate : Plan → Seen → Rule → ℕ → ℕ → Given Atom
equate plan seen rule a b =
    let first = value_at plan (net_reading seen) a in
    let second = value_at plan (net_reading seen) b in
    let v = lone_inferred plan rule a in
    let w = lone_inferred plan rule b in
    let decimals = min (decimals_in_side plan (lone plan a)) (decimals_in_side plan (lone plan b)) in
    clash_if ((is_none v && is_none w) && differ decimals first second)
    (beside (equal_to plan v second) (equal_to plan w first))
