-- What hides a name stands at its slot, so it is found among the preconditions of the slot.
use Rattle.std.proofs.Common.{◌≡◌, true, ◌&&◌, ◌∙◌, ap}
use Rattle.std.specs.Prelude.{◌==◌, is_none}
use Rattle.std.specs.List.{filter, list_any}
use Rattle.std.proofs.lemmas.Bool.{and_parts}
use Rattle.vc_base.proofs.ListLaws.{number_exact, number_itself}
use Rattle.vc_plan.specs.declared.conditions.Piece.{Piece}
use Rattle.vc_plan.specs.declared.plans.Guard.{Guard}
use Rattle.vc_plan.specs.declared.plans.Named.{Named}
use Rattle.vc_plan.specs.declared.plans.Named.TheVariants.{Var, Set}
use Rattle.vc_plan.specs.declared.plans.Plan.{Plan}
use Rattle.vc_plan.specs.Readings.{Reading}
use Rattle.vc_plan.specs.Showing.{covers, is_forbidden, is_hidden, is_value_hidden, same_named}
use Rattle.vc_show.specs.Places.{slot_of, slot_of_guard}
use Rattle.vc_show.proofs.GuardLemmas.{found_among}

-- names that mean the same are the same
pub same_is : (first second : Named) → same_named first second ≡ true → first ≡ second
same_is (Var v) (Var w) e = ap Var (number_exact v w e)
same_is (Var v) (Set s) e = absurd (cc)
same_is (Set s) (Var v) e = absurd (cc)
same_is (Set s) (Set t) e = ap Set (number_exact s t e)

pub same_itself : (named : Named) → same_named named named ≡ true
same_itself (Var v) = number_itself v
same_itself (Set s) = number_itself s

module _ (plan : Plan) (reading : Reading) (named : Named) where
  at_slot : (guard : Guard) → same_named guard.at named ≡ true → (slot_of_guard plan guard == slot_of plan named) ≡ true
  at_slot guard e =
      ap (λ n. slot_of plan n == slot_of plan named) (same_is guard.at named e) ∙ number_itself (slot_of plan named)

  pub own_found : list_any
      (λ guard. same_named guard.at named && is_none guard.value && is_forbidden plan reading guard)
      (filter (λ guard. slot_of_guard plan guard == slot_of plan named) plan.guards)
      ≡ is_hidden plan reading named
  own_found =
      found_among (λ (guard : Guard). same_named guard.at named && is_none guard.value
      && is_forbidden plan reading guard)
      (λ (guard : Guard). slot_of_guard plan guard == slot_of plan named)
      (λ guard e.
      let outer = and_parts (same_named guard.at named && is_none guard.value) (is_forbidden plan reading guard) e in
      let inner = and_parts (same_named guard.at named) (is_none guard.value) outer.0 in
      at_slot guard inner.0)
      plan.guards

  pub value_found : (grain : Piece)
      → list_any (λ guard. same_named guard.at named && covers grain guard.value && is_forbidden plan reading guard)
      (filter (λ guard. slot_of_guard plan guard == slot_of plan named) plan.guards)
      ≡ is_value_hidden plan reading named grain
  value_found grain =
      found_among (λ (guard : Guard). same_named guard.at named && covers grain guard.value
      && is_forbidden plan reading guard)
      (λ (guard : Guard). slot_of_guard plan guard == slot_of plan named)
      (λ guard e.
      let outer
      = and_parts (same_named guard.at named && covers grain guard.value) (is_forbidden plan reading guard) e in
      let inner = and_parts (same_named guard.at named) (covers grain guard.value) outer.0 in
      at_slot guard inner.0)
      plan.guards
