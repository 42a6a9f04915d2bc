-- How many grains there are of some, and which if it is one.
use Rattle.std.specs.Prelude.{ℕ, List, [], ◌∷◌}
use Rattle.vc_base.specs.Rounds.{Given, clash, atoms}
use Rattle.vc_plan.specs.declared.atoms.Atom.{Atom}
use Rattle.vc_plan.specs.declared.plans.Plan.{Plan}
use Rattle.vc_plan.specs.Answers.{nothing, only_value, value_atoms}
use Rattle.vc_check_gives.specs.declared.grains_left.Remaining.{Remaining}
use Rattle.vc_check_gives.specs.declared.grains_left.Remaining.TheVariants.{Nothing, One, Several}

abbrev pub remaining_of : List ℕ → Remaining
remaining_of [] = Nothing
remaining_of (g ∷ []) = One g
remaining_of (g ∷ (h ∷ more)) = Several

-- with one more, and with all of these more
abbrev pub with_one : Remaining → ℕ → Remaining
with_one Nothing g = One g
with_one (One h) g = Several
with_one Several g = Several

abbrev pub counted : Remaining → List ℕ → Remaining
counted remaining [] = remaining
counted remaining (g ∷ gs) = counted (with_one remaining g) gs

-- what follows of those that are left, and of those that aren't out
abbrev pub left_given : Plan → ℕ → Remaining → Given Atom
left_given plan v Nothing = clash
left_given plan v (One g) = atoms (value_atoms v (only_value plan v g))
left_given plan v Several = nothing

abbrev pub last_given : Plan → ℕ → Remaining → Given Atom
last_given plan v Nothing = nothing
last_given plan v (One g) = atoms (value_atoms v (only_value plan v g))
last_given plan v Several = nothing
