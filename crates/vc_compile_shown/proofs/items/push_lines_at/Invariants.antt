use Rattle.std.proofs.Common.{◌≡◌, ◌+◌, ◌++◌, [], length, drop, map, flat_map, slice_get, Some}
use Rattle.vc_compile_plan.specs.Numbering.{guard_brings, guard_from, requirement_brings, requirement_from, item_brings}
use Rattle.vc_compile_plan.specs.Numbering.{line_from, operation_from, selections_from}
use Rattle.vc_compile_plan.specs.Shown.{Choice, choice_at, guards_among, guards_of, guards_at, requirements_of}
use Rattle.vc_compile_plan.specs.Shown.{requirements_at, line_at, operation_at, operations_in}
use Rattle.vc_compile_plan.specs.Places.{characteristic_site}
use Rattle.vc_compile_plan.specs.Sites.{named_at}
use Rattle.vc_compile_plan.specs.Slots.{bill_of}
use Rattle.vc_compile_plan.specs.Variables.{by_slot, members_of}
use Rattle.vc_compile_numbering.specs.Growing.{kept, seen, with_conditions, with_drafts}
use Rattle.vc_compile_layout.specs.Standing.{layout_seen}
use Rattle.vc_compile_sites.specs.Standing.{asked_seen, entry_seen, site_seen}
use Rattle.vc_compile_shown.proofs.items.push_lines_at.Given as goal

abbrev pub invariant-loop-item : goal.invariant-loop-item
invariant-loop-item l =
    with_drafts item_brings line_from (seen l.out)
    (map (line_at (layout_seen l.layout) l.number l.slot)
    (drop l.item-index (bill_of (layout_seen l.layout).model l.slot.object)))
    ≡ with_drafts item_brings line_from (seen l.fn.out)
    (map (line_at (layout_seen l.layout) l.number l.slot) (bill_of (layout_seen l.layout).model l.slot.object))
