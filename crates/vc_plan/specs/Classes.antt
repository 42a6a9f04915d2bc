-- The classes of objects: which variables and sets a slot has, and in which order they and what stands at them come.
use Rattle.std.specs.Prelude.{ℕ, suc, Bool, true, false, not, ◌&&◌, ◌||◌, ◌==◌, nat_lt, List, [], ◌∷◌, map, slice_get}
use Rattle.std.specs.Prelude.{Option, None, Some}
use Rattle.std.specs.List.{filter, list_any, position_or_len}
use Rattle.vc_value.specs.declared.table_header.Domain.{Domain}
use Rattle.vc_plan.specs.declared.conditions.Piece.{Piece}
use Rattle.vc_plan.specs.declared.conditions.Piece.TheVariants.{OneText}
use Rattle.vc_plan.specs.declared.plans.Guard.{Guard}
use Rattle.vc_plan.specs.declared.plans.Named.{Named}
use Rattle.vc_plan.specs.declared.plans.Named.TheVariants.{Var, Set}
use Rattle.vc_plan.specs.declared.plans.Object.{Object}
use Rattle.vc_plan.specs.declared.plans.Plan.{Plan}
use Rattle.vc_plan.specs.declared.plans.Slot.{Slot}
use Rattle.vc_plan.specs.declared.plans.TextSet.{TextSet}
use Rattle.vc_plan.specs.declared.plans.Var.{Var as Variable}
use Rattle.vc_plan.specs.declared.procedures.Procedure.{Procedure}
use Rattle.vc_plan.specs.declared.procedures.Trigger.{Trigger}
use Rattle.vc_plan.specs.declared.procedures.Trigger.TheVariants.{Anyway, ValueIn, TextIn}
use Rattle.vc_plan.specs.Lists.{list_of, list_place}
use Rattle.vc_plan.specs.Orders.{same_numbers}
use Rattle.vc_plan.specs.Showing.{slot_of_named}

-- the class of an object, and of a slot's object
abbrev pub class_in : Option Object → List ℕ
class_in None = []
class_in (Some object) = object.characteristics

abbrev pub class_at : Plan → Option Slot → List ℕ
class_at plan None = []
class_at plan (Some slot) = class_in (slice_get plan.objects slot.object)

-- the characteristics that have a variable, or a set, at the slot, in order
abbrev pub vars_at : Plan → ℕ → List ℕ
vars_at plan i = map (λ x. x.characteristic) (filter (λ x. x.slot == i) plan.vars)

abbrev pub sets_at : Plan → ℕ → List ℕ
sets_at plan i = map (λ x. x.characteristic) (filter (λ x. x.slot == i) plan.sets)

-- whether the characteristic has sets, at every slot
abbrev pub has_sets : Plan → ℕ → Bool
has_sets plan c = list_any (λ x. x.characteristic == c) plan.sets

-- a slot has a set for each characteristic of its class that has sets, and a variable for each other, in class order
abbrev pub has_its_vars : Plan → ℕ → Bool
has_its_vars plan i =
    same_numbers (vars_at plan i) (filter (λ c. not (has_sets plan c)) (class_at plan (slice_get plan.slots i)))

abbrev pub has_its_sets : Plan → ℕ → Bool
has_its_sets plan i = same_numbers (sets_at plan i) (filter (has_sets plan) (class_at plan (slice_get plan.slots i)))

-- the characteristic of what a name means
abbrev pub characteristic_of_var : Option Variable → Option ℕ
characteristic_of_var None = None
characteristic_of_var (Some x) = Some x.characteristic

abbrev pub characteristic_of_set : Option TextSet → Option ℕ
characteristic_of_set None = None
characteristic_of_set (Some x) = Some x.characteristic

abbrev pub characteristic_at : Plan → Named → Option ℕ
characteristic_at plan (Var v) = characteristic_of_var (slice_get plan.vars v)
characteristic_at plan (Set s) = characteristic_of_set (slice_get plan.sets s)

-- the list of its values
abbrev pub list_at : Plan → Named → Option Domain
list_at plan named = list_of plan (characteristic_at plan named)

-- its place in its slot's class
abbrev pub place_in : List ℕ → Option ℕ → ℕ
place_in class None = 0
place_in class (Some c) = position_or_len (λ d. d == c) class

abbrev pub class_of_slot : Plan → Option ℕ → List ℕ
class_of_slot plan None = []
class_of_slot plan (Some i) = class_at plan (slice_get plan.slots i)

abbrev pub class_place : Plan → Named → ℕ
class_place plan named = place_in (class_of_slot plan (slot_of_named plan named)) (characteristic_at plan named)

-- a slot's number; 0 where there is none
abbrev pub number_or_zero : Option ℕ → ℕ
number_or_zero None = 0
number_or_zero (Some i) = i

-- where a precondition comes: by slot, class order, its characteristic's own before those of values, and list order
abbrev pub value_place : Plan → Named → Option Piece → ℕ
value_place plan named None = 0
value_place plan named (Some piece) = suc (list_place (list_at plan named) piece)

abbrev pub guard_place : Plan → Guard → List ℕ
guard_place plan guard =
    number_or_zero (slot_of_named plan guard.at) ∷ class_place plan guard.at ∷ value_place plan guard.at guard.value
    ∷ []

-- where a procedure comes: by slot, those of values after the others, in class order and list order
abbrev pub trigger_place : Plan → Trigger → List ℕ
trigger_place plan Anyway = []
trigger_place plan (ValueIn v piece) = class_place plan (Var v) ∷ list_place (list_at plan (Var v)) piece ∷ []
trigger_place plan (TextIn set text) = class_place plan (Set set) ∷ list_place (list_at plan (Set set)) (OneText text)
    ∷ []

abbrev pub procedure_place : Plan → Procedure → List ℕ
procedure_place plan procedure = procedure.slot ∷ trigger_place plan procedure.trigger

-- whether the first place isn't behind the second, by the first number in which they differ
abbrev pub is_not_behind : List ℕ → List ℕ → Bool
is_not_behind [] ns = true
is_not_behind (m ∷ ms) [] = false
is_not_behind (m ∷ ms) (n ∷ ns) = nat_lt m n || ((m == n) && is_not_behind ms ns)

abbrev pub are_guards_in_order : Plan → Guard → Guard → Bool
are_guards_in_order plan a b = is_not_behind (guard_place plan a) (guard_place plan b)

abbrev pub are_procedures_in_order : Plan → Procedure → Procedure → Bool
are_procedures_in_order plan a b = is_not_behind (procedure_place plan a) (procedure_place plan b)
