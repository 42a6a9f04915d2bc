-- What can't stand together, and what of it is found first.
use Rattle.std.proofs.Common.{◌≡◌, true, false, List, [], ◌∷◌, refl}
use Rattle.std.specs.Prelude.{None, Some, ◌≢◌}
use Rattle.vc_value.specs.declared.table_header.Domain.TheVariants.{Texts}
use Rattle.vc_value.specs.declared.value.Value.TheVariants.{Text}
use Rattle.vc_plan.specs.declared.atoms.Atom.{Atom}
use Rattle.vc_plan.specs.declared.atoms.Atom.TheVariants.{Here, Out, Is}
use Rattle.vc_plan.specs.declared.plans.Plan.{Plan}
use Rattle.vc_plan.proofs.PlanRows.Models.{empty, open_var, pump, root}
use Rattle.vc_plan_blame.specs.Blame.{are_at_odds, colliding, exhausted_by, exhausting, number_of, uses_up}

-- PUMP's motors are E1, E2 and E3, of texts 3 to 5: a value is at odds with that its own grain is out, in either order
grain_of_value : are_at_odds pump (Is 1 (Text 3)) (Out 1 0) ≡ true
grain_of_value = refl

turned : are_at_odds pump (Out 1 0) (Is 1 (Text 3)) ≡ true
turned = refl

other_grain : are_at_odds pump (Is 1 (Text 3)) (Out 1 1) ≢ true
other_grain e = cc

-- with another value, but not with itself, nor with a value of another variable
two_values : are_at_odds pump (Is 1 (Text 3)) (Is 1 (Text 4)) ≡ true
two_values = refl

itself : are_at_odds pump (Is 1 (Text 3)) (Is 1 (Text 3)) ≢ true
itself e = cc

other_variable : are_at_odds pump (Is 0 (Text 0)) (Is 1 (Text 4)) ≢ true
other_variable e = cc

two_grains : are_at_odds pump (Out 1 0) (Out 1 1) ≢ true
two_grains e = cc

-- a variable of the root is exhausted by its grains alone, since no step says that the root is here
of_root : exhausting pump 1 ≡ Out 1 0 ∷ Out 1 1 ∷ Out 1 2 ∷ []
of_root = refl

root_too : exhausting pump 1 ≢ Here 0 ∷ Out 1 0 ∷ Out 1 1 ∷ Out 1 2 ∷ []
root_too e = cc

-- one of a slot below by its slot too
abbrev below : Plan
below = record empty {
  domains = Texts (0 ∷ 1 ∷ []) ∷ [];
  slots = root ∷ record { parent = Some 0; depth = 1; object = 1; line = 0 } ∷ [];
  vars = open_var 0 ∷ record (open_var 0) { slot = 1 } ∷ [];
}

of_slot : exhausting below 1 ≡ Here 1 ∷ Out 1 0 ∷ Out 1 1 ∷ []
of_slot = refl

slot_forgotten : exhausting below 1 ≢ Out 1 0 ∷ Out 1 1 ∷ []
slot_forgotten e = cc

-- without its slot it isn't exhausted, and without one of its grains neither
by_all : exhausted_by below (Out 1 0 ∷ Out 1 1 ∷ Here 1 ∷ []) ≡ Some 1
by_all = refl

without_slot : exhausted_by below (Out 1 0 ∷ Out 1 1 ∷ []) ≡ None
without_slot = refl

without_grain : exhausted_by below (Here 1 ∷ Out 1 0 ∷ []) ≡ None
without_grain = refl

-- the first such variable
first_of_two : exhausted_by below (Out 1 0 ∷ Out 1 1 ∷ Here 1 ∷ Out 0 0 ∷ Out 0 1 ∷ []) ≡ Some 0
first_of_two = refl

-- what exhausts a variable is found before anything that is at odds
abbrev stand : List Atom
stand = Is 0 (Text 0) ∷ Out 0 1 ∷ Out 0 0 ∷ []

exhausted_first : colliding below stand (Out 0 0) ≡ Out 0 0 ∷ Out 0 1 ∷ []
exhausted_first = refl

pair_first : colliding below stand (Out 0 0) ≢ Is 0 (Text 0) ∷ Out 0 0 ∷ []
pair_first e = cc

-- of what is at odds with a value, that its grain is out is found before another value
grain_first : colliding pump (Is 1 (Text 5) ∷ Out 1 0 ∷ Is 1 (Text 3) ∷ []) (Is 1 (Text 3))
    ≡ Out 1 0 ∷ Is 1 (Text 3) ∷ []
grain_first = refl

value_first : colliding pump (Is 1 (Text 5) ∷ Out 1 0 ∷ Is 1 (Text 3) ∷ []) (Is 1 (Text 3)) ≢ Is 1 (Text 5)
    ∷ Is 1 (Text 3) ∷ []
value_first e = cc

-- another value only where no such grain is out; and where a grain comes last, the value that it holds
value_alone : colliding pump (Is 1 (Text 5) ∷ Out 1 1 ∷ Is 1 (Text 3) ∷ []) (Is 1 (Text 3))
    ≡ Is 1 (Text 5) ∷ Is 1 (Text 3) ∷ []
value_alone = refl

grain_last : colliding pump (Is 0 (Text 0) ∷ Is 1 (Text 3) ∷ Out 1 0 ∷ []) (Out 1 0) ≡ Is 1 (Text 3) ∷ Out 1 0 ∷ []
grain_last = refl

-- where all stands together nothing is found
calm : colliding pump (Is 0 (Text 0) ∷ Out 1 1 ∷ Is 1 (Text 3) ∷ []) (Is 1 (Text 3)) ≡ []
calm = refl

-- steps are counted from 1, and of two with one conclusion the first is meant
numbers : number_of (Is 0 (Text 0) ∷ Out 1 1 ∷ Out 1 1 ∷ []) (Out 1 1) ≡ 2
numbers = refl

from_zero : number_of (Is 0 (Text 0) ∷ Out 1 1 ∷ Out 1 1 ∷ []) (Out 1 1) ≢ 1
from_zero e = cc

later_one : number_of (Is 0 (Text 0) ∷ Out 1 1 ∷ Out 1 1 ∷ []) (Out 1 1) ≢ 3
later_one e = cc

-- a grain out and the slot can use up a variable's grains, a value can't, nor can another slot or another variable's
-- grain
own_grain : uses_up below 1 (Out 1 0) ≡ true
own_grain = refl

own_slot : uses_up below 1 (Here 1) ≡ true
own_slot = refl

own_value : uses_up below 1 (Is 1 (Text 0)) ≡ false
own_value = refl

root_of_other : uses_up below 1 (Here 0) ≡ false
root_of_other = refl

grain_of_other : uses_up below 1 (Out 0 0) ≡ false
grain_of_other = refl
