-- The order of slots, and which lines they stand for.
use Rattle.std.specs.Prelude.{ℕ, zero, suc, ◌+◌, Bool, true, false, not, ◌&&◌, ◌||◌, ◌==◌, nat_lt, is_some}
use Rattle.std.specs.Prelude.{if◌then◌else◌, List, [], ◌∷◌, length, slice_get, Option, None, Some}
use Rattle.std.specs.List.{filter, list_all, list_any}
use Rattle.vc_value.specs.Words.{same_bytes}
use Rattle.vc_plan.specs.declared.plans.Line as bill
use Rattle.vc_plan.specs.declared.plans.Object.{Object}
use Rattle.vc_plan.specs.declared.plans.Plan.{Plan}
use Rattle.vc_plan.specs.declared.plans.Slot.{Slot}
use Rattle.vc_plan.specs.Seen.{parent_in}
use Rattle.vc_plan.specs.Orders.{same_number_if, is_number}

-- the slot of a bill line
abbrev pub slot_of_line : Option bill.Line → Option ℕ
slot_of_line None = None
slot_of_line (Some line) = Some line.slot

abbrev pub depth_in : Option Slot → ℕ
depth_in None = 0
depth_in (Some slot) = slot.depth

-- the first slot has no parent and depth 0
abbrev pub is_root : Option Slot → Bool
is_root None = false
is_root (Some slot) = not (is_some slot.parent) && (slot.depth == 0)

-- a slot stands one deeper than its parent, and for a line of it
abbrev pub is_below : Plan → Slot → Option ℕ → Bool
is_below plan slot None = false
is_below plan slot (Some p) =
    (slot.depth == depth_in (slice_get plan.slots p) + 1) && is_number p (slot_of_line (slice_get plan.lines slot.line))

-- a slot and those above it, up to four
abbrev pub lineage : Plan → ℕ → Option ℕ → List ℕ
lineage plan zero i = []
lineage plan (suc n) None = []
lineage plan (suc n) (Some i) = i ∷ lineage plan n (parent_in (slice_get plan.slots i))

-- in preorder a slot's parent is the slot before it, or one above that
abbrev pub follows_in_preorder : Plan → ℕ → Bool
follows_in_preorder plan zero = true
follows_in_preorder plan (suc i) =
    list_any (λ p. is_number p (parent_in (slice_get plan.slots (suc i)))) (lineage plan 4 (Some i))

-- of two slots with one parent the first stands for the earlier line
abbrev pub is_item_before : Slot → Slot → Bool
is_item_before a b = not (same_number_if a.parent b.parent) || nat_lt a.line b.line

-- whether the line's material is that of an object
abbrev pub is_configurable : Plan → bill.Line → Bool
is_configurable plan line = list_any (λ object. same_bytes object.material line.material) plan.objects

-- whether the slot stands for the line with this number, and has its material
abbrev pub stands_for : ℕ → Slot → Bool
stands_for l slot = is_some slot.parent && (slot.line == l)

abbrev pub has_material : List ℕ → Option Object → Bool
has_material material None = false
has_material material (Some object) = same_bytes object.material material

-- a configurable line has one slot, and another line none
abbrev pub has_its_slots : Plan → ℕ → Option bill.Line → Bool
has_its_slots plan l None = true
has_its_slots plan l (Some line) =
    let own = filter (stands_for l) plan.slots in
    (length own == (if is_configurable plan line then 1 else 0))
    && list_all (λ slot. has_material line.material (slice_get plan.objects slot.object)) own
