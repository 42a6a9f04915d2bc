-- Variables and sets: those of each slot, in class order.
use Rattle.std.specs.Prelude.{ℕ, suc, Bool, false, not, ◌&&◌, ◌==◌, List, [], ◌∷◌, ◌++◌, map, slice_get, Option, None}
use Rattle.std.specs.Prelude.{Some}
use Rattle.std.specs.List.{filter, position_or_len}
use Rattle.vc_model_parts.specs.declared.parts.Characteristic.{Characteristic}
use Rattle.vc_model_parts.specs.declared.parts.Class.{Class}
use Rattle.vc_model_parts.specs.declared.parts.Model.{Model}
use Rattle.vc_plan.specs.declared.plans.Slot.{Slot}
use Rattle.vc_plan.specs.declared.plans.TextSet.{TextSet}
use Rattle.vc_plan.specs.declared.plans.Var.{Var}
use Rattle.vc_types.specs.Looking.{class_of}
use Rattle.vc_types.specs.Settings.{is_multiple}

-- what each slot has, one slot after another; the first is the slot of this number
abbrev pub by_slot : {X : Type 0} → (ℕ → Slot → List X) → ℕ → List Slot → List X
by_slot has i [] = []
by_slot has i (slot ∷ slots) = has i slot ++ by_slot has (suc i) slots

-- the characteristics of an object's class, in order
abbrev pub members_in : Option Class → List ℕ
members_in None = []
members_in (Some class) = class.members

abbrev pub members_if : Model → Option ℕ → List ℕ
members_if model None = []
members_if model (Some class) = members_in (slice_get model.classes class)

abbrev pub members_of : Model → ℕ → List ℕ
members_of model o = members_if model (class_of model (Some o))

abbrev pub restrictable_in : Option Characteristic → Bool
restrictable_in None = false
restrictable_in (Some c) = c.restrictable

-- a characteristic at a slot; all slots have the domain of the characteristic's own number
abbrev pub var_at : Model → ℕ → ℕ → Var
var_at model i c =
    record {
      slot = i;
      characteristic = c;
      domain = c;
      restrictable =
          restrictable_in (slice_get model.characteristics c);
    }

abbrev pub set_at : ℕ → ℕ → TextSet
set_at i c = record { slot = i; characteristic = c; domain = c }

abbrev pub vars_at : Model → ℕ → Slot → List Var
vars_at model i slot = map (var_at model i) (filter (λ c. not (is_multiple model c)) (members_of model slot.object))

abbrev pub sets_at : Model → ℕ → Slot → List TextSet
sets_at model i slot = map (set_at i) (filter (is_multiple model) (members_of model slot.object))

abbrev pub vars_of : Model → List Slot → List Var
vars_of model slots = by_slot (vars_at model) 0 slots

abbrev pub sets_of : Model → List Slot → List TextSet
sets_of model slots = by_slot (sets_at model) 0 slots

-- the number of the variable, and of the set, of a characteristic at a slot
abbrev pub var_number : List Var → ℕ → ℕ → ℕ
var_number vars i c = position_or_len (λ x. (x.slot == i) && (x.characteristic == c)) vars

abbrev pub set_number : List TextSet → ℕ → ℕ → ℕ
set_number sets i c = position_or_len (λ x. (x.slot == i) && (x.characteristic == c)) sets
