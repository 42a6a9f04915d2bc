use Rattle.std.proofs.Common.{◌≡◌, drop, map, flat_map, slice_get, Some}
use Rattle.vc_compile_plan.specs.Numbering.{guard_brings, guard_from}
use Rattle.vc_compile_plan.specs.Shown.{GuardDraft, choice_at, guards_among, guards_of, guards_at}
use Rattle.vc_compile_plan.specs.Sites.{named_at}
use Rattle.vc_compile_plan.specs.Variables.{by_slot}
use Rattle.vc_compile_numbering.specs.Growing.{seen, with_drafts}
use Rattle.vc_compile_layout.specs.Standing.{layout_seen}
use Rattle.vc_compile_sites.specs.Standing.{asked_seen, entry_seen, site_seen}
use Rattle.vc_compile_shown.proofs.guards.push_guards_of_slots.Given as goal

abbrev pub invariant-loop-number : goal.invariant-loop-number
invariant-loop-number l =
    with_drafts guard_brings guard_from (seen l.out)
    (by_slot (guards_at (layout_seen l.layout)) l.number (drop l.number l.slots))
    ≡ with_drafts guard_brings guard_from (seen l.fn.out) (by_slot (guards_at (layout_seen l.layout)) 0 l.slots)
