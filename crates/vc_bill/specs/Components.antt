-- Of each line the slot that stands for it, as a list.
use Rattle.std.specs.Prelude.{ℕ, ◌-◌, is_some, if◌then◌else◌, List, length, map, slice_get, slice_set, Option, Some}
use Rattle.std.specs.List.{find, range_with_len}
use Rattle.vc_plan.specs.declared.plans.Plan.{Plan}
use Rattle.vc_plan.specs.declared.plans.Slot.{Slot}
use Rattle.vc_plan.specs.Bills.{is_for_line}
use Rattle.vc_plan.specs.Domains.{numbers_below}

-- the slot of this number put for the line that it stands for, if it stands for one
abbrev pub with_component : Slot → ℕ → List (Option ℕ) → List (Option ℕ)
with_component slot j table = let put = slice_set table slot.line (Some j) in if is_some slot.parent then put else table

-- the first of the slots from this number on that stands for the line
abbrev pub component_from : Plan → ℕ → ℕ → Option ℕ
component_from plan j n = find (λ k. is_for_line n (slice_get plan.slots k)) (range_with_len j (length plan.slots - j))

abbrev pub components_from : Plan → ℕ → List (Option ℕ)
components_from plan j = map (component_from plan j) (numbers_below (length plan.lines))
