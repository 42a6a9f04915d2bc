-- What is said of a variable that is to lie in grains that pass a test, with what it follows from.
use Rattle.std.specs.Prelude.{ℕ, Bool, ◌&&◌, if◌then◌else◌, List, [], ◌∷◌, map, Option, None, Some}
use Rattle.std.specs.List.{filter}
use Rattle.vc_value.specs.declared.value.Value.{Value}
use Rattle.vc_plan.specs.declared.atoms.Atom.{Atom}
use Rattle.vc_plan.specs.declared.atoms.Atom.TheVariants.{Out, Is}
use Rattle.vc_plan.specs.declared.conditions.Piece.{Piece}
use Rattle.vc_plan.specs.declared.plans.Plan.{Plan}
use Rattle.vc_plan.specs.Domains.{numbers_below, count_of, is_restrictable, is_grain_with}
use Rattle.vc_plan.specs.Restrictions.{confined}
use Rattle.vc_plan.specs.Seen.{Seen}
use Rattle.vc_rule_premises.specs.Saying.{Said, said_from}

-- the variable's grains that are out and pass the test
abbrev pub outs_with : Plan → Seen → ℕ → (Piece → Bool) → List Atom
outs_with plan seen v test =
    map (Out v) (filter (λ g. seen.out v g && is_grain_with plan v test g) (numbers_below (count_of plan v)))

-- why no more grains that pass the test are left: the variable's value, or that the others are out
abbrev pub why_left_by : Plan → Seen → ℕ → (Piece → Bool) → Option Value → List Atom
why_left_by plan seen v test None = outs_with plan seen v test
why_left_by plan seen v test (Some a) = Is v a ∷ []

abbrev pub why_left : Plan → Seen → ℕ → (Piece → Bool) → List Atom
why_left plan seen v test = why_left_by plan seen v test (seen.value v)

-- what the variable's grains are ruled out by: where it is restrictable the test alone
abbrev pub why_confined : Plan → Seen → ℕ → (Piece → Bool) → List Atom
why_confined plan seen v test = if is_restrictable plan v then [] else why_left plan seen v test

abbrev pub confined_said : Plan → Seen → ℕ → (Piece → Bool) → Said
confined_said plan seen v test = said_from seen (why_confined plan seen v test) (confined plan seen v test)
