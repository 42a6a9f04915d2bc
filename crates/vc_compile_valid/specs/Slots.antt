-- The order of a plan's slots, and the lines that they stand for.
use Rattle.std.specs.Prelude.{◌≡◌, true, drop, length, slice_get}
use Rattle.std.specs.List.{list_all}
use Rattle.vc_plan.specs.Alike.{have_one_bill, have_one_routing}
use Rattle.vc_plan.specs.Domains.{numbers_below}
use Rattle.vc_plan.specs.Orders.{are_in_order}
use Rattle.vc_plan.specs.Slots.{follows_in_preorder, has_its_slots, is_below, is_item_before}
use Rattle.vc_plan.specs.Valid.{each_slot}
use Rattle.vc_plan.specs.declared.plans.Plan.{Plan}

pub record HasPreorder (plan : Plan) : Type 0 where
  pub below : list_all (λ slot. is_below plan slot slot.parent) (drop 1 plan.slots) ≡ true
  pub preorder : each_slot plan (follows_in_preorder plan) ≡ true
  pub items : are_in_order is_item_before plan.slots ≡ true

abbrev pub HasLineSlots : Plan → Type 0
HasLineSlots plan =
    list_all (λ l. has_its_slots plan l (slice_get plan.lines l)) (numbers_below (length plan.lines)) ≡ true

pub record HasOneBill (plan : Plan) : Type 0 where
  pub one_bill : each_slot plan (λ i. each_slot plan (have_one_bill plan i)) ≡ true
  pub one_routing : each_slot plan (λ i. each_slot plan (have_one_routing plan i)) ≡ true
