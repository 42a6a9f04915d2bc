-- What variables, sets and slots have in common.
use Rattle.std.specs.Prelude.{ℕ, Bool, true, false, not, ◌&&◌, ◌||◌, ◌==◌, List, [], ◌∷◌, slice_get, Option, None, Some}
use Rattle.std.specs.List.{filter, list_all}
use Rattle.vc_value.specs.Grains.{has_decimals, is_ascending}
use Rattle.vc_value.specs.Words.{same_bytes}
use Rattle.vc_value.specs.declared.table_header.Domain.{Domain}
use Rattle.vc_value.specs.declared.table_header.Domain.TheVariants.{Texts, Nums}
use Rattle.vc_plan.specs.declared.plans.Line.{Line}
use Rattle.vc_plan.specs.declared.plans.Operation.{Operation}
use Rattle.vc_plan.specs.declared.plans.Plan.{Plan}
use Rattle.vc_plan.specs.declared.plans.Slot.{Slot}
use Rattle.vc_plan.specs.declared.plans.TextSet.{TextSet}
use Rattle.vc_plan.specs.declared.plans.Var.{Var}
use Rattle.vc_plan.specs.Orders.{are_apart, same_number_if}

-- two variables of one characteristic have one domain, and may both be narrowed or not; two sets have one domain
abbrev pub are_of_one_domain : Var → Var → Bool
are_of_one_domain x y =
    not (x.characteristic == y.characteristic)
    || ((x.domain == y.domain) && ((x.restrictable && y.restrictable) || not (x.restrictable || y.restrictable)))

abbrev pub sets_of_one_domain : TextSet → TextSet → Bool
sets_of_one_domain x y = not (x.characteristic == y.characteristic) || (x.domain == y.domain)

-- texts once each; grains that ascend, with ends of at most the decimals
abbrev pub is_proper : Domain → Bool
is_proper (Texts texts) = are_apart (λ s t. s == t) texts
is_proper (Nums decimals grains) =
    is_ascending grains && list_all (λ grain. has_decimals decimals grain.low && has_decimals decimals grain.high)
    grains

-- whether two slots are of one object
abbrev pub object_in : Option Slot → Option ℕ
object_in None = None
object_in (Some slot) = Some slot.object

abbrev pub are_of_one_object : Plan → ℕ → ℕ → Bool
are_of_one_object plan i j = same_number_if (object_in (slice_get plan.slots i)) (object_in (slice_get plan.slots j))

-- lines, and operations, that the slots of one object have alike
abbrev pub same_lines : List Line → List Line → Bool
same_lines [] [] = true
same_lines [] (m ∷ ms) = false
same_lines (l ∷ ls) [] = false
same_lines (l ∷ ls) (m ∷ ms) =
    ((l.item == m.item) && (same_bytes l.material m.material && same_bytes l.unit m.unit)) && same_lines ls ms

abbrev pub same_operations : List Operation → List Operation → Bool
same_operations [] [] = true
same_operations [] (m ∷ ms) = false
same_operations (l ∷ ls) [] = false
same_operations (l ∷ ls) (m ∷ ms) =
    ((l.number == m.number) && (same_bytes l.name m.name && same_bytes l.unit m.unit)) && same_operations ls ms

-- what the object of a slot has
abbrev pub lines_at : Plan → ℕ → List Line
lines_at plan i = filter (λ line. line.slot == i) plan.lines

abbrev pub operations_at : Plan → ℕ → List Operation
operations_at plan i = filter (λ operation. operation.slot == i) plan.operations

-- two slots of one object have its lines, and its operations
abbrev pub have_one_bill : Plan → ℕ → ℕ → Bool
have_one_bill plan i j = not (are_of_one_object plan i j) || same_lines (lines_at plan i) (lines_at plan j)

abbrev pub have_one_routing : Plan → ℕ → ℕ → Bool
have_one_routing plan i j = not (are_of_one_object plan i j)
    || same_operations (operations_at plan i) (operations_at plan j)
