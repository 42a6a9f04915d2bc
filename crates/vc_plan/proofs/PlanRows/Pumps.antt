-- PUMP, whose motor follows from its size by a table.
use Rattle.std.proofs.Common.{◌≡◌, [], ◌∷◌, true, refl}
use Rattle.std.specs.Prelude.{None, Some, ◌≢◌}
use Rattle.vc_base.specs.Rounds.{broken}
use Rattle.vc_value.specs.declared.value.Value.TheVariants.{Text}
use Rattle.vc_plan.specs.declared.atoms.Atom.TheVariants.{Here, Out, Is}
use Rattle.vc_plan.specs.Bounds.{cell_bound, place_bound, out_at, is_at}
use Rattle.vc_plan.specs.Domains.{atom_count}
use Rattle.vc_plan.specs.Settle.{settlement_of}
use Rattle.vc_plan.proofs.PlanRows.Models.{pump, users, settles_at}

-- a large pump's motor is E3
large : settles_at pump (users (Some (Text 2) ∷ []))
    (Here 0 ∷ Is 0 (Text 2) ∷ Out 0 0 ∷ Out 0 1 ∷ Out 1 0 ∷ Out 1 1 ∷ Is 1 (Text 5) ∷ []) ≡ true
large = refl

-- a medium one's isn't E3, and so it isn't large; that it isn't small either is no one's conclusion, since a row of the
-- table is possible for a small one in the other column
medium : settles_at pump (users (Some (Text 1) ∷ [])) (Here 0 ∷ Is 0 (Text 1) ∷ Out 0 2 ∷ Out 1 2 ∷ []) ≡ true
medium = refl

not_small : settles_at pump (users (Some (Text 1) ∷ [])) (Here 0 ∷ Is 0 (Text 1) ∷ Out 0 0 ∷ Out 0 2 ∷ Out 1 2 ∷ []) ≢
    true
not_small e = cc

-- the motor tells the size too
by_motor : settles_at pump (users (None ∷ Some (Text 5) ∷ []))
    (Here 0 ∷ Is 1 (Text 5) ∷ Out 1 0 ∷ Out 1 1 ∷ Out 0 0 ∷ Out 0 1 ∷ Is 0 (Text 2) ∷ []) ≡ true
by_motor = refl

-- a small pump has no E3, and an E1 it may have
small_with_large : settlement_of pump (users (Some (Text 0) ∷ Some (Text 5) ∷ [])) ≡ broken
small_with_large = refl

small_with_small : settlement_of pump (users (Some (Text 0) ∷ Some (Text 3) ∷ [])) ≢ broken
small_with_small e = cc

-- one slot, three texts and three, and one grain, each variable with its value
atoms : atom_count pump ≡ 11
atoms = refl

values_too : atom_count pump ≢ 8
values_too e = cc

-- a medium size is in two rows, and needs one premise more than the others
medium_bound : place_bound pump (out_at 0 1) ≡ 3
medium_bound = refl

large_bound : place_bound pump (out_at 0 2) ≡ 2
large_bound = refl

-- a value by Last needs its variable's grains; of one with a single grain it is as cheap as the user's
motor_bound : place_bound pump (is_at 1) ≡ 3
motor_bound = refl

flow_bound : place_bound pump (is_at 2) ≡ 1
flow_bound = refl

cells : cell_bound pump ≡ 26
cells = refl

-- the clash has its cells too
clash_too : cell_bound pump ≢ 21
clash_too e = cc
