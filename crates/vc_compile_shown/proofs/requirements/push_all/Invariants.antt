use Rattle.std.proofs.Common.{◌≡◌, ◌+◌, ◌++◌, [], length, drop, map, flat_map, slice_get, Some}
use Rattle.vc_compile_plan.specs.Numbering.{guard_brings, guard_from, requirement_brings, requirement_from, item_brings}
use Rattle.vc_compile_plan.specs.Numbering.{line_from, operation_from, selections_from}
use Rattle.vc_compile_plan.specs.Shown.{Choice, choice_at, guards_among, guards_of, guards_at, requirements_of}
use Rattle.vc_compile_plan.specs.Shown.{requirements_at, line_at, operation_at, operations_in}
use Rattle.vc_compile_plan.specs.Places.{characteristic_site}
use Rattle.vc_compile_plan.specs.Sites.{named_at}
use Rattle.vc_compile_plan.specs.Slots.{bill_of}
use Rattle.vc_compile_plan.specs.Variables.{by_slot, members_of}
use Rattle.vc_compile_numbering.specs.Growing.{kept, seen, with_conditions, with_drafts}
use Rattle.vc_compile_layout.specs.Standing.{layout_seen}
use Rattle.vc_compile_sites.specs.Standing.{asked_seen, entry_seen, site_seen}
use Rattle.vc_compile_shown.proofs.requirements.push_all.Given as goal

abbrev pub invariant-loop-asked : goal.invariant-loop-asked
invariant-loop-asked l =
    with_drafts requirement_brings requirement_from (seen l.out)
    (map (λ a. record { at = l.at; choice = choice_at (layout_seen l.layout) (site_seen l.site) a })
    (map asked_seen (drop l.asked-index l.selections)))
    ≡ with_drafts requirement_brings requirement_from (seen l.fn.out)
    (map (λ a. record { at = l.at; choice = choice_at (layout_seen l.layout) (site_seen l.site) a })
    (map asked_seen l.selections))
