-- Worked rows of readers, by computing: PUMP's, and those of a rule that waits for a value. Beside what is so stands
-- what would be so by a likely slip, and isn't.
use Rattle.std.proofs.Common.{◌≡◌, ℕ, Bool, true, false, [], ◌∷◌, refl}
use Rattle.std.specs.Prelude.{◌≢◌, Option, None, Some}
use Rattle.vc_value.specs.declared.value.Value.TheVariants.{Text}
use Rattle.vc_plan.specs.declared.atoms.Atom.TheVariants.{Is}
use Rattle.vc_plan.specs.declared.conditions.Condition.TheVariants.{Always, Compared}
use Rattle.vc_plan.specs.declared.conditions.Relation.TheVariants.{Equal, Unequal}
use Rattle.vc_plan.specs.declared.plans.Plan.{Plan}
use Rattle.vc_plan.specs.declared.rules.Kind.{Kind}
use Rattle.vc_plan.specs.declared.rules.Kind.TheVariants.{Among, Last}
use Rattle.vc_plan.specs.declared.rules.Restriction.TheVariants.{Against}
use Rattle.vc_plan.specs.declared.terms.Term.TheVariants.{Literal, Read}
use Rattle.vc_plan.proofs.PlanRows.Models.{last, open_pair, own_rule, pump, whole}
use Rattle.vc_plan.specs.Seen.{Seen, seen_of}
use Rattle.vc_plan_reasons.specs.Things.{slot_at, var_at}
use Rattle.vc_net_laws.specs.declared.triggers.Trigger.{Trigger}
use Rattle.vc_net_readers.specs.declared.glances.Hint.{Hint}
use Rattle.vc_net_readers.specs.declared.glances.Hint.TheVariants.{GivesText, IsLast, Untold}
use Rattle.vc_net_readers.specs.Filing.{filed_at_all}
use Rattle.vc_net_readers.specs.Glances.{hint_in}
use Rattle.vc_net_readers.specs.Laws.{asked}
use Rattle.vc_net_readers.specs.Readers.{readers_of, trigger_at}

-- the table's rule reads the root, the size and the motor; each variable's last grain is read with its slot
by_things : readers_of pump ≡ record {
  by_slot = (0 ∷ 1 ∷ 2 ∷ 3 ∷ []) ∷ [];
  by_var = (0 ∷ 1 ∷ []) ∷ (0 ∷ 2 ∷ []) ∷ (3 ∷ []) ∷ [];
  free = (0 ∷ 1 ∷ []) ∷ (0 ∷ 2 ∷ []) ∷ (3 ∷ []) ∷ [];
  awaited = [] ∷ [] ∷ [] ∷ [];
  by_place = [] ∷ [] ∷ [] ∷ [] ∷ [] ∷ [] ∷ [] ∷ [] ∷ [] ∷ [] ∷ [] ∷ [];
  triggers = None ∷ None ∷ None ∷ None ∷ [];
  glances = record { trigger = None; hint = Untold } ∷ record { trigger = None; hint = IsLast 0 true }
      ∷ record { trigger = None; hint = IsLast 1 true } ∷ record { trigger = None; hint = IsLast 2 false } ∷ [];
}
by_things = refl

-- two variables of the grains 1, 2 .. 3 and 4: the first rule waits for the value 2 of the first
abbrev awaiting : Plan
awaiting = record (open_pair [] (last 0)) {
  conditions = Always ∷ Compared Equal (Read 0) (Literal (whole 2)) ∷ [];
  rules = own_rule 1 (Last 1) ∷ last 0 ∷ [];
}

by_value : readers_of awaiting ≡ record {
  by_slot = (0 ∷ 1 ∷ []) ∷ [];
  by_var = (0 ∷ 1 ∷ []) ∷ (0 ∷ []) ∷ [];
  free = (1 ∷ []) ∷ [] ∷ [];
  awaited = (0 ∷ []) ∷ (0 ∷ []) ∷ [];
  by_place = [] ∷ [] ∷ [] ∷ (0 ∷ []) ∷ [] ∷ [] ∷ [] ∷ [] ∷ [] ∷ [];
  triggers = Some (record { var = 0; value = whole 2 }) ∷ None ∷ [];
  glances = record { trigger = Some (record { var = 0; value = whole 2 }); hint = IsLast 1 true }
      ∷ record { trigger = None; hint = IsLast 0 true } ∷ [];
}
by_value = refl

-- so it isn't free at what it touches besides, and the first awaits a value of itself
free_anyway : (readers_of awaiting).free ≢ (1 ∷ []) ∷ (0 ∷ []) ∷ []
free_anyway e = cc

itself_left_out : (readers_of awaiting).awaited ≢ [] ∷ (0 ∷ []) ∷ []
itself_left_out e = cc

-- what is kept of the first, of the second, and of a rule that isn't there
abbrev kept_of : ℕ → Option Trigger
kept_of r = trigger_at (readers_of awaiting).triggers r

its_trigger : kept_of 0 ≡ Some (record { var = 0; value = whole 2 })
its_trigger = refl

no_trigger : (kept_of 1 ≡ None) × (kept_of 2 ≡ None)
no_trigger = (refl, refl)

-- it is asked when an atom of either comes, where the first has a value in its grain, and nowhere else
abbrev with_first : ℕ → Seen
with_first a = seen_of (Is 0 (whole a) ∷ [])

its_grain : asked awaiting (with_first 2) (var_at 0) ≡ 1 ∷ 0 ∷ []
its_grain = refl

at_the_other : asked awaiting (with_first 2) (var_at 1) ≡ 0 ∷ []
at_the_other = refl

other_grain : asked awaiting (with_first 1) (var_at 0) ≢ 1 ∷ 0 ∷ []
other_grain e = cc

no_value : asked awaiting (seen_of []) (var_at 1) ≡ []
no_value = refl

-- and by each atom of its slot
its_slot : asked awaiting (seen_of []) (slot_at 0) ≡ 0 ∷ 1 ∷ []
its_slot = refl

-- a rule that has a place twice is put there once, and nowhere else
once : filed_at_all ((4 ∷ []) ∷ [] ∷ []) (1 ∷ 0 ∷ 1 ∷ 2 ∷ []) 5 ≡ (4 ∷ 5 ∷ []) ∷ (5 ∷ []) ∷ []
once = refl

twice : filed_at_all ([] ∷ []) (0 ∷ 0 ∷ []) 5 ≢ (5 ∷ 5 ∷ []) ∷ []
twice e = cc

-- what is told of a rule: the text that it gives a variable that isn't restrictable, by itself; and of no other one
abbrev told_of : Bool → Kind → Hint
told_of restrictable kind =
    hint_in (record pump {
      vars = record { slot = 0; characteristic = 0; domain = 0; restrictable = restrictable } ∷ [];
    }) kind

a_text : told_of false (Among 0 (Against Equal (Text 7))) ≡ GivesText 0 7
a_text = refl

open_variable : told_of true (Among 0 (Against Equal (Text 7))) ≡ Untold
open_variable = refl

another_relation : told_of false (Among 0 (Against Unequal (Text 7))) ≡ Untold
another_relation = refl

a_number : told_of false (Among 0 (Against Equal (whole 7))) ≡ Untold
a_number = refl
