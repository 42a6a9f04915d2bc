-- What stands of a slot with one variable of two texts, computed.
use Rattle.std.proofs.Common.{◌≡◌, ◌≢◌, None, Some, true, [], ◌∷◌, refl}
use Rattle.vc_value.specs.declared.value.Value.TheVariants.{Text}
use Rattle.vc_plan.specs.declared.atoms.Atom.TheVariants.{Here, Out, Is}
use Rattle.vc_plan.specs.declared.atoms.Origin.TheVariants.{Rule, User}
use Rattle.vc_plan.specs.Seen.{says}
use Rattle.vc_net_places.specs.Places.{Index}
use Rattle.vc_net_places.specs.declared.places.Thing.TheVariants.{Slot, Var}
use Rattle.vc_net_standing.specs.declared.standing.Fact.{Fact}
use Rattle.vc_net_standing.specs.Standing.{Stood, atoms_of, first_facts, is_free, nothing_at, number_if_at, places_of}
use Rattle.vc_net_standing.specs.Standing.{seen_by, set_of, with_fact}

-- the slot, the variable's value and its two grains
abbrev lamp : Index
lamp = record { firsts = 1 ∷ []; things = Slot 0 ∷ Var 0 ∷ Var 0 ∷ Var 0 ∷ [] }

abbrev first_out : Fact
first_out = record { atom = Out 0 0; origin = Rule 3 }

abbrev second_value : Fact
second_value = record { atom = Is 0 (Text 1); origin = User }

abbrev both_stand : Stood
both_stand = with_fact (with_fact (nothing_at lamp) first_out) second_value

-- in the order in which they came, after that the root is here
in_order : set_of both_stand ≡ Here 0 ∷ Out 0 0 ∷ Is 0 (Text 1) ∷ []
in_order = refl

at_their_places : places_of lamp both_stand.facts ≡ 2 ∷ 1 ∷ []
at_their_places = refl

second_at_one : number_if_at lamp 1 1 (Some second_value) ≡ Some 1
second_at_one = refl

not_at_two : number_if_at lamp 2 1 (Some second_value) ≡ None
not_at_two = refl

first_alone : first_facts both_stand 1 ≡ with_fact (nothing_at lamp) first_out
first_alone = refl

root_says : says (seen_by (nothing_at lamp)) (Here 0) ≡ true
root_says = refl

root_is_no_fact : atoms_of (nothing_at lamp).facts ≢ Here 0 ∷ []
root_is_no_fact e = cc

value_says : says (seen_by both_stand) (Is 0 (Text 1)) ≡ true
value_says = refl

no_other_value : says (seen_by both_stand) (Is 0 (Text 0)) ≢ true
no_other_value e = cc

no_other_grain : says (seen_by both_stand) (Out 0 1) ≢ true
no_other_grain e = cc

-- a place is free where nothing stands: not beside another value, and not past all places
grain_is_free : is_free both_stand (Out 0 1) ≡ true
grain_is_free = refl

value_was_free : is_free (with_fact (nothing_at lamp) first_out) (Is 0 (Text 0)) ≡ true
value_was_free = refl

other_value_is_not : is_free both_stand (Is 0 (Text 0)) ≢ true
other_value_is_not e = cc

third_grain_is_not : is_free both_stand (Out 0 2) ≢ true
third_grain_is_not e = cc
