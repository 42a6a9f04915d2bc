-- The log of a slot with one variable of two texts, what is kept of it, and which variables of PUMP are full, computed.
use Rattle.std.proofs.Common.{◌≡◌, ◌≢◌, ℕ, true, List, [], ◌∷◌, refl}
use Rattle.std.specs.Prelude.{Some}
use Rattle.vc_base.specs.Chains.{cited}
use Rattle.vc_value.specs.declared.value.Value.TheVariants.{Text}
use Rattle.vc_plan.specs.declared.atoms.Atom.TheVariants.{Here, Out, Is}
use Rattle.vc_plan.specs.declared.atoms.Origin.TheVariants.{Rule, User}
use Rattle.vc_plan.specs.declared.conditions.Piece.TheVariants.{OneText}
use Rattle.vc_plan.specs.Seen.{seen_of}
use Rattle.vc_plan.proofs.PlanRows.Models.{pump}
use Rattle.vc_plan_reasons.specs.Checking.{concluded, set_with}
use Rattle.vc_net_places.specs.Cells.{begins_from}
use Rattle.vc_net_places.specs.Places.{Index}
use Rattle.vc_net_places.specs.declared.places.Thing.TheVariants.{Slot, Var}
use Rattle.vc_net_standing.specs.declared.standing.Fact.{Fact}
use Rattle.vc_net_standing.specs.Standing.{nothing_at, with_fact}
use Rattle.vc_net_log.specs.Coming.{are_by_slot, has_full, is_full_with, lies_in_left}
use Rattle.vc_net_log.specs.Keeping.{cells_at, log_kept, lowered_at, number_at, raised_at, written}
use Rattle.vc_net_log.specs.Logs.{Logged, cells_of, nothing_logged, premise_count, room_at, set_of, stood_of}
use Rattle.vc_net_log.specs.Logs.{with_step}

-- the slot, the variable's value and its two grains
abbrev lamp : Index
lamp = record { firsts = 1 ∷ []; things = Slot 0 ∷ Var 0 ∷ Var 0 ∷ Var 0 ∷ [] }

abbrev begins : List ℕ
begins = begins_from 0 (0 ∷ 2 ∷ 1 ∷ 1 ∷ [])

abbrev value : Fact
value = record { atom = Is 0 (Text 1); origin = User }

abbrev out : Fact
out = record { atom = Out 0 0; origin = Rule 3 }

-- the value, by the user, and that the other grain is out, by a rule
abbrev both : Logged
both = with_step (with_step (nothing_logged lamp begins) value []) out (Is 0 (Text 1) ∷ [])

in_order : set_of both ≡ Here 0 ∷ Is 0 (Text 1) ∷ Out 0 0 ∷ []
in_order = refl

stands : stood_of both ≡ with_fact (with_fact (nothing_at lamp) value) out
stands = refl

cites_the_first : both.steps ≡ record { conclusion = Is 0 (Text 1); origin = User; premises = [] }
    ∷ record { conclusion = Out 0 0; origin = Rule 3; premises = 1 ∷ [] } ∷ []
cites_the_first = refl

cites_the_value : cited (concluded both.steps) (1 ∷ []) ≡ Some (Is 0 (Text 1) ∷ [])
cites_the_value = refl

-- two premises of a value, one of a grain, none of the root
value_room : room_at begins 1 ≡ 2
value_room = refl

grain_room : room_at begins 3 ≡ 1
grain_room = refl

root_room : room_at begins 0 ≢ 1
root_room e = cc

-- room for four premises at all places, of which the two steps have one
room_for_four : cells_of both ≡ 4
room_for_four = refl

last_room_counts : cells_of both ≢ 3
last_room_counts e = cc

one_premise : premise_count both.steps ≡ 1
one_premise = refl

steps_are_no_premises : premise_count both.steps ≢ 2
steps_are_no_premises e = cc

-- the premise of what is at place 2 is in cell 2: place 1. The number at place 3 is of steps that went
is_kept : log_kept (stood_of both) begins (0 ∷ 0 ∷ 1 ∷ 1 ∷ []) (0 ∷ 0 ∷ 1 ∷ 2 ∷ []) ≡ both
is_kept = refl

its_cell : cells_at begins (0 ∷ 0 ∷ 1 ∷ 0 ∷ []) (0 ∷ 0 ∷ 1 ∷ 0 ∷ []) 2 ≡ 1 ∷ []
its_cell = refl

second_number : number_at (1 ∷ 2 ∷ []) 2 ≡ 2
second_number = refl

no_number : number_at (1 ∷ 2 ∷ []) 3 ≡ 0
no_number = refl

two_written : written 1 (7 ∷ 8 ∷ []) (0 ∷ 0 ∷ 0 ∷ 0 ∷ []) ≡ 0 ∷ 7 ∷ 8 ∷ 0 ∷ []
two_written = refl

-- an atom that a grain is out is counted by its variable, others aren't
one_more : raised_at (Out 1 0) (1 ∷ 1 ∷ []) ≡ 1 ∷ 2 ∷ []
one_more = refl

no_more : raised_at (Is 1 (Text 0)) (1 ∷ 1 ∷ []) ≢ 1 ∷ 2 ∷ []
no_more e = cc

one_less : lowered_at (Out 1 0) (1 ∷ 1 ∷ []) ≡ 1 ∷ 0 ∷ []
one_less = refl

-- of PUMP's size one grain is left of three, so it may not go, and its slot is full once it does
not_full : has_full pump (2 ∷ 0 ∷ 0 ∷ []) 0 ≢ true
not_full e = cc

full : has_full pump (3 ∷ 0 ∷ 0 ∷ []) 0 ≡ true
full = refl

other_slot : has_full pump (3 ∷ 0 ∷ 0 ∷ []) 7 ≢ true
other_slot e = cc

last_one : is_full_with pump (seen_of (set_with (Out 0 0 ∷ Out 0 2 ∷ []))) (2 ∷ 0 ∷ 0 ∷ []) 0 1 ≡ true
last_one = refl

gone_already : is_full_with pump (seen_of (set_with (Out 0 0 ∷ Out 0 2 ∷ []))) (2 ∷ 0 ∷ 0 ∷ []) 0 2 ≢ true
gone_already e = cc

by_slot : are_by_slot pump.vars ≡ true
by_slot = refl

-- a text is left in the grain that isn't out
second_left : lies_in_left (OneText 4 ∷ OneText 5 ∷ []) (seen_of (Out 0 0 ∷ [])) 0 (Text 5) ≡ true
second_left = refl

first_gone : lies_in_left (OneText 4 ∷ OneText 5 ∷ []) (seen_of (Out 0 0 ∷ [])) 0 (Text 4) ≢ true
first_gone e = cc
