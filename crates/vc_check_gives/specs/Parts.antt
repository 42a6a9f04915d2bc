-- What parts say, and what is asked of what is said.
use Rattle.std.specs.Prelude.{ℕ, Bool, false, not, ◌&&◌, ◌||◌, ◌==◌, [], ◌∷◌, map, slice_get, Option, None, Some}
use Rattle.std.specs.List.{list_all, list_any}
use Rattle.vc_base.specs.Rounds.{Given, clash, atoms}
use Rattle.vc_plan.specs.declared.atoms.Atom.{Atom}
use Rattle.vc_plan.specs.declared.atoms.Atom.TheVariants.{Here, Out, Is}
use Rattle.vc_plan.specs.declared.conditions.Piece.{Piece}
use Rattle.vc_plan.specs.declared.plans.Plan.{Plan}
use Rattle.vc_plan.specs.Answers.{nothing, beside}
use Rattle.vc_plan.specs.Domains.{grains_of, is_grain_with}
use Rattle.vc_plan.specs.Pieces.{is_inside, is_outside, is_part}
use Rattle.vc_plan.specs.Restrictions.{failing}
use Rattle.vc_plan.specs.Seen.{Seen, says}
use Rattle.vc_plan_values.specs.Values.{meant}
use Rattle.vc_check_gives.specs.declared.parts.Part.{Part}
use Rattle.vc_check_gives.specs.declared.parts.Part.TheVariants.{Nothing, Clash, Slot, To, Others}
use Rattle.vc_check_gives.specs.declared.parts.Parts.{Parts}
use Rattle.vc_check_gives.specs.declared.parts.Parts.TheVariants.{Alone, Both}
use Rattle.vc_check_gives.specs.declared.tests.Test.{Test}
use Rattle.vc_check_gives.specs.declared.tests.Test.TheVariants.{Inside, NotOutside, PartOf}

-- whether a piece passes a test
abbrev pub passes_by : Test → Piece → Bool
passes_by (Inside r a) piece = is_inside r (meant a) piece
passes_by (PartOf pieces) piece = list_any (is_part piece) pieces.now
passes_by (NotOutside r a) piece = not (is_outside r (meant a) piece)

abbrev pub part_given : Plan → Part → Given Atom
part_given plan Nothing = nothing
part_given plan Clash = clash
part_given plan (Slot i) = atoms (Here i ∷ [])
part_given plan (To v a) = atoms (Is v a ∷ [])
part_given plan (Others v test) = atoms (map (Out v) (failing plan v (passes_by test)))

abbrev pub given_by : Plan → Parts → Given Atom
given_by plan (Alone part) = part_given plan part
given_by plan (Both first second) = beside (part_given plan first) (part_given plan second)

-- whether the variable has a grain of this number that fails
abbrev pub fails_in : Test → Option Piece → Bool
fails_in test None = false
fails_in test (Some piece) = not (passes_by test piece)

abbrev pub fails : Plan → ℕ → Test → ℕ → Bool
fails plan v test g = fails_in test (slice_get (grains_of plan v) g)

-- whether the atom is that such a grain of the variable is out
abbrev pub puts_out : Plan → ℕ → Test → Atom → Bool
puts_out plan v test (Here i) = false
puts_out plan v test (Out w g) = (w == v) && fails plan v test g
puts_out plan v test (Is w a) = false

-- whether a grain passes, or is out
abbrev pub passes_or_out : Plan → Seen → ℕ → Test → ℕ → Bool
passes_or_out plan seen v test g = is_grain_with plan v (passes_by test) g || seen.out v g

-- whether it is no clash, and all of it is said
abbrev pub all_said : Seen → Given Atom → Bool
all_said seen clash = false
all_said seen (atoms xs) = list_all (says seen) xs
