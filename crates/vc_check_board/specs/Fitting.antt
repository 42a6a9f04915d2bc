-- What each atom of a set passes just where the set is clear, so that it is looked up and not searched for.
use Rattle.std.specs.Prelude.{◌<◌, ℕ, Bool, true, not, ◌&&◌, ◌==◌, if◌then◌else◌, length, Option, None, Some}
use Rattle.vc_value.specs.declared.value.Value.{Value}
use Rattle.vc_plan.specs.declared.atoms.Atom.{Atom}
use Rattle.vc_plan.specs.declared.atoms.Atom.TheVariants.{Here, Out, Is}
use Rattle.vc_plan.specs.declared.plans.Plan.{Plan}
use Rattle.vc_plan.specs.Clear.{is_exhausted}
use Rattle.vc_plan.specs.Domains.{count_of, is_grain_with}
use Rattle.vc_plan.specs.Pieces.{lies_in}
use Rattle.vc_plan.specs.Seen.{Seen, is_value}

-- each variable has a grain
abbrev pub HaveGrains : Plan → Type 0
HaveGrains plan = (v : ℕ) → v < length plan.vars → 0 < count_of plan v

-- the grain doesn't hold the value, if there is one
abbrev pub is_apart : Plan → ℕ → ℕ → Option Value → Bool
is_apart plan v g None = true
is_apart plan v g (Some a) = not (is_grain_with plan v (lies_in a) g)

-- not all grains are out; asked at the first
abbrev pub grain_fits : Plan → Seen → ℕ → ℕ → Bool
grain_fits plan seen v g = if g == 0 then not (is_exhausted plan seen v) else true

-- the atom stands well in the set: its variable's value is its own, or isn't in its grain, and some grain isn't out
abbrev pub fits : Plan → Seen → Atom → Bool
fits plan seen (Here i) = true
fits plan seen (Out v g) = is_apart plan v g (seen.value v) && grain_fits plan seen v g
fits plan seen (Is v a) = is_value a (seen.value v)
