-- The place of each atom that may stand in a net: the plan's slots first, then variable by variable one place for its
-- value and one for each of its grains.
use Rattle.std.specs.Prelude.{ℕ, ◌+◌, Bool, ◌&&◌, nat_lt, List, ◌++◌, length, map, replicate, slice_index_or, zero, suc}
use Rattle.std.specs.Prelude.{◌-◌, slice_get, Option, None, Some}
use Rattle.std.specs.List.{flat_map, sum_by}
use Rattle.vc_plan.specs.declared.atoms.Atom.{Atom}
use Rattle.vc_plan.specs.declared.atoms.Atom.TheVariants.{Here, Out, Is}
use Rattle.vc_plan.specs.declared.plans.Plan.{Plan}
use Rattle.vc_plan.specs.Bounds.{Place, here_at, out_at, is_at, place_for}
use Rattle.vc_plan.specs.Domains.{numbers_below, count_of}
use Rattle.vc_net_places.specs.declared.places.Spot.{Spot}
use Rattle.vc_net_places.specs.declared.places.Spot.TheVariants as spots
use Rattle.vc_net_places.specs.declared.places.Thing.{Thing}
use Rattle.vc_net_places.specs.declared.places.Thing.TheVariants.{Slot, Var}

-- whether the plan has the place
abbrev pub is_place : Plan → Place → Bool
is_place plan (here_at i) = nat_lt i (length plan.slots)
is_place plan (out_at v g) = nat_lt v (length plan.vars) && nat_lt g (count_of plan v)
is_place plan (is_at v) = nat_lt v (length plan.vars)

-- how many places come before a variable's own: the slots, and of each variable before it the value and the grains
abbrev pub first_place : Plan → ℕ → ℕ
first_place plan v = length plan.slots + sum_by (λ w. count_of plan w + 1) (numbers_below v)

-- the number of a place
abbrev pub number_of : Plan → Place → ℕ
number_of plan (here_at i) = i
number_of plan (is_at v) = first_place plan v
number_of plan (out_at v g) = first_place plan v + (1 + g)

abbrev pub place_of : Plan → Atom → ℕ
place_of plan atom = number_of plan (place_for atom)

-- what a place is of
abbrev pub thing_at : Place → Thing
thing_at (here_at i) = Slot i
thing_at (out_at v g) = Var v
thing_at (is_at v) = Var v

-- what each place is of, in order; those of the slots and of the first variables
abbrev pub things_of_var : Plan → ℕ → List Thing
things_of_var plan v = replicate (count_of plan v + 1) (Var v)

abbrev pub things_before : Plan → ℕ → List Thing
things_before plan v = map Slot (numbers_below (length plan.slots)) ++ flat_map (things_of_var plan) (numbers_below v)

-- what is kept of a plan's places: of each variable the number of its first, and what each is of
pub record Index : Type 0 where
  pub firsts : List ℕ
  pub things : List Thing

abbrev pub index_of : Plan → Index
index_of plan = record {
  firsts = map (first_place plan) (numbers_below (length plan.vars));
  things = things_before plan (length plan.vars);
}

-- the number of an atom's place by what is kept
abbrev pub first_in : Index → ℕ → ℕ
first_in index v = slice_index_or index.firsts v 0

abbrev pub place_in : Index → Atom → ℕ
place_in index (Here i) = i
place_in index (Out v g) = first_in index v + (1 + g)
place_in index (Is v a) = first_in index v

-- and the other way: the place of this number, by what it is of
abbrev pub place_after : ℕ → ℕ → Place
place_after v zero = is_at v
place_after v (suc g) = out_at v g

abbrev pub place_by : Index → ℕ → Option Thing → Place
place_by index n None = here_at 0
place_by index n (Some (Slot i)) = here_at i
place_by index n (Some (Var v)) = place_after v (n - first_in index v)

abbrev pub place_numbered : Index → ℕ → Place
place_numbered index n = place_by index n (slice_get index.things n)

-- the place that is told of
abbrev pub told_place : Spot → Place
told_place (spots.Here i) = here_at i
told_place (spots.Out v g) = out_at v g
told_place (spots.Is v) = is_at v
