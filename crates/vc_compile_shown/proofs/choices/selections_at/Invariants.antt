use Rattle.std.proofs.Common.{◌≡◌, ◌+◌, ◌++◌, [], length, drop, map, flat_map, slice_get, Some}
use Rattle.vc_compile_plan.specs.Numbering.{guard_brings, guard_from, requirement_brings, requirement_from, item_brings}
use Rattle.vc_compile_plan.specs.Numbering.{line_from, operation_from, selections_from}
use Rattle.vc_compile_plan.specs.Shown.{Choice, choice_at, guards_among, guards_of, guards_at, requirements_of}
use Rattle.vc_compile_plan.specs.Shown.{requirements_at, line_at, operation_at, operations_in}
use Rattle.vc_compile_plan.specs.Places.{characteristic_site}
use Rattle.vc_compile_plan.specs.Sites.{named_at}
use Rattle.vc_compile_plan.specs.Slots.{bill_of}
use Rattle.vc_compile_plan.specs.Variables.{by_slot, members_of}
use Rattle.vc_compile_numbering.specs.Growing.{kept, seen, with_conditions, with_drafts}
use Rattle.vc_compile_layout.specs.Standing.{layout_seen}
use Rattle.vc_compile_sites.specs.Standing.{asked_seen, entry_seen, site_seen}
use Rattle.vc_compile_shown.proofs.choices.selections_at.Given as goal

abbrev pub invariant-loop-one : goal.invariant-loop-one
invariant-loop-one l =
    (l.selections ++ selections_from (length (kept l.trees).conditions)
    (map (choice_at (layout_seen l.layout) (site_seen l.site)) (map asked_seen (drop l.one-index l.asked)))
    ≡ selections_from (length (kept l.fn.trees).conditions)
    (map (choice_at (layout_seen l.layout) (site_seen l.site)) (map asked_seen l.asked)))
    × (with_conditions (kept l.trees)
    (map (λ choice. choice.condition)
    (map (choice_at (layout_seen l.layout) (site_seen l.site)) (map asked_seen (drop l.one-index l.asked))))
    ≡ with_conditions (kept l.fn.trees)
    (map (λ choice. choice.condition)
    (map (choice_at (layout_seen l.layout) (site_seen l.site)) (map asked_seen l.asked))))
