-- Worked rows of PUMP's places, by computing: the root, then size, motor and flow with three, three and one grain.
-- Beside what is so stands what would be so by a likely slip, and isn't.
use Rattle.std.proofs.Common.{◌≡◌, true, false, [], ◌∷◌, map, refl}
use Rattle.std.specs.Prelude.{◌≢◌}
use Rattle.vc_value.specs.declared.value.Value.TheVariants.{Text}
use Rattle.vc_plan.specs.declared.atoms.Atom.TheVariants.{Here, Out, Is}
use Rattle.vc_plan.specs.declared.rules.Kind.TheVariants.{Line}
use Rattle.vc_plan.specs.Bounds.{here_at, is_at, out_at, place_bound}
use Rattle.vc_plan.specs.Domains.{atom_count}
use Rattle.vc_plan.proofs.PlanRows.Models.{empty, own_rule, pump, root, whole}
use Rattle.vc_plan.specs.declared.plans.Plan.{Plan}
use Rattle.vc_net_places.specs.Cells.{all_places, begins_from, begins_of, bounds_of, own_bound, total}
use Rattle.vc_net_places.specs.declared.places.Thing.TheVariants.{Slot, Var}
use Rattle.vc_net_places.specs.Places.{index_of, is_place, place_in, place_of, place_numbered}

-- the slots come first, then of each variable its value and its grains
numbered : map (place_of pump)
    (Here 0 ∷ Is 0 (Text 1) ∷ Out 0 0 ∷ Out 0 1 ∷ Out 0 2 ∷ Is 1 (Text 3) ∷ Out 1 0 ∷ Out 1 1 ∷ Out 1 2
    ∷ Is 2 (whole 7) ∷ Out 2 0 ∷ [])
    ≡ 0 ∷ 1 ∷ 2 ∷ 3 ∷ 4 ∷ 5 ∷ 6 ∷ 7 ∷ 8 ∷ 9 ∷ 10 ∷ []
numbered = refl

all_atoms : atom_count pump ≡ 11
all_atoms = refl

-- values of one variable share a place
one_value : place_of pump (Is 1 (Text 5)) ≡ 5
one_value = refl

-- the root takes one too, the value comes before the grains, and each variable has a place for it
no_root : place_of pump (Is 0 (Text 1)) ≢ 0
no_root e = cc

value_last : place_of pump (Is 0 (Text 1)) ≢ 4
value_last e = cc

no_values : place_of pump (Out 1 0) ≢ 5
no_values e = cc

-- what is kept
kept : index_of pump ≡ record {
  firsts = 1 ∷ 5 ∷ 9 ∷ [];
  things = Slot 0 ∷ Var 0 ∷ Var 0 ∷ Var 0 ∷ Var 0 ∷ Var 1 ∷ Var 1 ∷ Var 1 ∷ Var 1 ∷ Var 2 ∷ Var 2 ∷ [];
}
kept = refl

read : map (place_in (index_of pump)) (Here 0 ∷ Is 2 (whole 7) ∷ Out 0 2 ∷ Out 2 0 ∷ []) ≡ 0 ∷ 9 ∷ 4 ∷ 10 ∷ []
read = refl

-- and what may stand at a number
back : map (place_numbered (index_of pump)) (0 ∷ 1 ∷ 4 ∷ 5 ∷ 10 ∷ [])
    ≡ here_at 0 ∷ is_at 0 ∷ out_at 0 2 ∷ is_at 1 ∷ out_at 2 0 ∷ []
back = refl

grain_for_value : place_numbered (index_of pump) 1 ≢ out_at 0 0
grain_for_value e = cc

-- PUMP has one slot, three variables, and no fourth grain of the size
there : map (is_place pump) (here_at 0 ∷ is_at 2 ∷ out_at 0 2 ∷ out_at 2 0 ∷ []) ≡ true ∷ true ∷ true ∷ true ∷ []
there = refl

not_there : map (is_place pump) (here_at 1 ∷ is_at 3 ∷ out_at 0 3 ∷ out_at 2 1 ∷ out_at 3 0 ∷ [])
    ≡ false ∷ false ∷ false ∷ false ∷ false ∷ []
not_there = refl

-- the places in order
in_order : all_places pump
    ≡ here_at 0 ∷ is_at 0 ∷ out_at 0 0 ∷ out_at 0 1 ∷ out_at 0 2 ∷ is_at 1 ∷ out_at 1 0 ∷ out_at 1 1 ∷ out_at 1 2
    ∷ is_at 2 ∷ out_at 2 0 ∷ []
in_order = refl

-- a value by the last grain needs the variable's grains; a grain that the table takes needs the rule's slot and its
-- rows;
-- a flow is by the user or by its last grain, which is its only one
bounds : bounds_of pump ≡ 0 ∷ 3 ∷ 2 ∷ 3 ∷ 2 ∷ 3 ∷ 3 ∷ 2 ∷ 2 ∷ 1 ∷ 0 ∷ []
bounds = refl

begins : begins_of pump ≡ 0 ∷ 0 ∷ 3 ∷ 5 ∷ 8 ∷ 10 ∷ 13 ∷ 16 ∷ 18 ∷ 20 ∷ 21 ∷ 21 ∷ []
begins = refl

-- each begins where the one before it ends, not one behind
one_behind : begins_from 0 (2 ∷ 3 ∷ []) ≢ 0 ∷ 3 ∷ 7 ∷ []
one_behind e = cc

no_end : begins_from 0 (2 ∷ 3 ∷ []) ≢ 0 ∷ 2 ∷ []
no_end e = cc

all_cells : total (bounds_of pump) ≡ 21
all_cells = refl

-- the root has no cells, even where a rule would bring it
abbrev brought : Plan
brought = record empty { slots = root ∷ []; rules = own_rule 0 (Line 0) ∷ [] }

root_cells : own_bound brought (here_at 0) ≡ 0
root_cells = refl

root_bound : place_bound brought (here_at 0) ≡ 1
root_bound = refl
