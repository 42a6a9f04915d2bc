-- The slots of a plan.
use Rattle.std.specs.Prelude.{◌≡◌, true, nat_lt, slice_get}
use Rattle.std.specs.List.{list_all}
use Rattle.vc_plan.specs.Ranges.{slot_there}
use Rattle.vc_plan.specs.Slots.{is_root}
use Rattle.vc_plan.specs.declared.plans.Plan.{Plan}

pub record HasSlots (plan : Plan) : Type 0 where
  pub slots_there : list_all (slot_there plan) plan.slots ≡ true
  pub root : is_root (slice_get plan.slots 0) ≡ true
  pub levels : list_all (λ slot. nat_lt slot.depth 4) plan.slots ≡ true
