-- Sets of atoms that don't contradict themselves.
use Rattle.std.specs.Prelude.{ℕ, Bool, false, not, ◌&&◌, ◌==◌, nat_lt, List, length}
use Rattle.std.specs.List.{list_any, list_all}
use Rattle.vc_plan.specs.declared.atoms.Atom.{Atom}
use Rattle.vc_plan.specs.declared.atoms.Atom.TheVariants.{Here, Out, Is}
use Rattle.vc_plan.specs.declared.plans.Plan.{Plan}
use Rattle.vc_plan.specs.Domains.{numbers_below, grains_of, count_of, is_grain_with}
use Rattle.vc_plan.specs.Pieces.{same_value, lies_in, lies_in_some}
use Rattle.vc_plan.specs.Seen.{Seen, seen_of, is_here}

-- whether the plan has the atom's slot, or its variable and grain; a value lies in a grain
abbrev pub is_named : Plan → Atom → Bool
is_named plan (Here i) = nat_lt i (length plan.slots)
is_named plan (Out v g) = nat_lt g (count_of plan v)
is_named plan (Is v a) = lies_in_some (grains_of plan v) a

-- whether the first atom is a value beside which the second can't stand: another value, or the grain that holds it out
abbrev pub collides : Plan → Atom → Atom → Bool
collides plan (Here i) b = false
collides plan (Out v g) b = false
collides plan (Is v a) (Here j) = false
collides plan (Is v a) (Out w g) = (v == w) && is_grain_with plan v (lies_in a) g
collides plan (Is v a) (Is w b) = (v == w) && not (same_value a b)

-- whether every grain of the variable is out
abbrev pub are_all_out : Plan → Seen → ℕ → Bool
are_all_out plan seen v = list_all (seen.out v) (numbers_below (count_of plan v))

-- whether the variable's slot is here and it has no grain left
abbrev pub is_exhausted : Plan → Seen → ℕ → Bool
is_exhausted plan seen v = is_here plan seen v && are_all_out plan seen v

-- whether each atom is named, none collides with another, and no variable is exhausted
abbrev pub is_clear : Plan → List Atom → Bool
is_clear plan set =
    (list_all (is_named plan) set && list_all (λ a. not (list_any (collides plan a) set)) set)
    && not (list_any (is_exhausted plan (seen_of set)) (numbers_below (length plan.vars)))
