use Rattle.std.proofs.Common.{◌≡◌, drop, map, flat_map, slice_get, Some}
use Rattle.vc_plan.specs.declared.plans.Slot.{Slot}
use Rattle.vc_compile_plan.specs.Numbering.{item_brings, line_from, operation_from}
use Rattle.vc_compile_plan.specs.Shown.{ItemDraft, line_at, operation_at, operations_in}
use Rattle.vc_compile_plan.specs.Slots.{bill_of}
use Rattle.vc_compile_plan.specs.Variables.{by_slot}
use Rattle.vc_compile_numbering.specs.Growing.{seen, with_drafts}
use Rattle.vc_compile_layout.specs.Standing.{layout_seen}
use Rattle.vc_compile_sites.specs.Standing.{asked_seen, entry_seen, site_seen}
use Rattle.vc_compile_shown.proofs.items.push_lines_of_slots.Given as goal

abbrev pub invariant-loop-number : goal.invariant-loop-number
invariant-loop-number l =
    with_drafts item_brings line_from (seen l.out)
    (by_slot (λ i s. map (line_at (layout_seen l.layout) i s) (bill_of (layout_seen l.layout).model s.object))
    l.number (drop l.number l.slots))
    ≡ with_drafts item_brings line_from (seen l.fn.out)
    (by_slot (λ i s. map (line_at (layout_seen l.layout) i s) (bill_of (layout_seen l.layout).model s.object)) 0
    l.slots)
