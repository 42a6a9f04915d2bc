-- What a rule says with what it follows from, beside why the rule acts.
use Rattle.std.specs.Prelude.{◌≤◌, Bool, not, if◌then◌else◌, List, [], ◌∷◌, ◌++◌, length, map, Option, None, Some}
use Rattle.std.specs.List.{filter, sum_by, AllByRecursion}
use Rattle.vc_base.specs.Rounds.{Given, clash, atoms}
use Rattle.vc_plan.specs.declared.atoms.Atom.{Atom}
use Rattle.vc_plan.specs.Seen.{Seen, says}
use Rattle.vc_rule_yield.specs.Yielding.{Conclusion, Rooms, Yielded, with_cites, concluded, clashed}
use Rattle.vc_rule_premises.specs.Cited.{cited_once}
use Rattle.vc_rule_premises.specs.Citing.{cited_all}

-- a clash, or conclusions each from its own premises
pub data Said : Type 0 where
  clashing : List Atom → Said
  concluding : List Conclusion → Said

-- the same without what it follows from
abbrev pub given_of : Said → Given Atom
given_of (clashing premises) = clash
given_of (concluding conclusions) = atoms (map (λ conclusion. conclusion.atom) conclusions)

-- nothing
abbrev pub silent : Said
silent = concluding []

-- both, where a clash of either is the clash, that of the first if both clash
abbrev pub together : Said → Said → Said
together (clashing premises) second = clashing premises
together (concluding conclusions) (clashing premises) = clashing premises
together (concluding conclusions) (concluding more) = concluding (conclusions ++ more)

-- a clash from these premises where the test holds, else what is said
abbrev pub clash_when : Bool → List Atom → Said → Said
clash_when test premises said = if test then clashing premises else said

-- an atom from these premises
abbrev pub conclusion_from : List Atom → Atom → Conclusion
conclusion_from premises a = record { atom = a; premises = premises }

-- what is given, without what stands already, each atom from these premises, and a clash too
abbrev pub said_from : Seen → List Atom → Given Atom → Said
said_from seen premises clash = clashing premises
said_from seen premises (atoms given) =
    concluding (map (conclusion_from premises) (filter (λ a. not (says seen a)) given))

-- how a yield takes it: each conclusion from what is cited already and its own premises; what is cited already stays
abbrev pub take_conclusions : Yielded → List Conclusion → Yielded
take_conclusions y [] = y
take_conclusions y (c ∷ more) = take_conclusions (with_cites (concluded (cited_all y c.premises) c.atom) y.cites) more

abbrev pub taken : Yielded → Said → Yielded
taken y (clashing premises) = clashed (cited_all y premises)
taken y (concluding conclusions) = take_conclusions y conclusions

-- the same with what comes first cited too, each premise once
abbrev pub conclusion_with : List Atom → Conclusion → Conclusion
conclusion_with why c = record { atom = c.atom; premises = cited_once (why ++ c.premises) }

abbrev pub said_with : List Atom → Said → Said
said_with why (clashing premises) = clashing (cited_once (why ++ premises))
said_with why (concluding conclusions) = concluding (map (conclusion_with why) conclusions)

-- what a yield holds
abbrev pub held_from : Option (List Atom) → List Conclusion → Said
held_from None found = concluding found
held_from (Some premises) found = clashing premises

abbrev pub held : Yielded → Said
held y = held_from y.clash y.found

-- whether a yield has room for it
abbrev pub MayCite : Rooms → Conclusion → Type 0
MayCite rooms c = length c.premises ≤ rooms.cites

abbrev pub HasRoomFor : Rooms → Said → Type 0
HasRoomFor rooms (clashing premises) = (length premises ≤ rooms.cites) × (length premises ≤ rooms.premises)
HasRoomFor rooms (concluding conclusions) =
    AllByRecursion (MayCite rooms) conclusions
    × (length conclusions ≤ rooms.atoms) × (sum_by (λ c. length c.premises) conclusions ≤ rooms.premises)
