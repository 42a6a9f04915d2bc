use Rattle.std.proofs.Common.{◌≡◌, drop, map, flat_map, slice_get, Some}
use Rattle.vc_compile_plan.specs.Numbering.{requirement_brings, requirement_from}
use Rattle.vc_compile_plan.specs.Shown.{RequirementDraft, requirements_of, requirements_at}
use Rattle.vc_compile_plan.specs.Sites.{named_at}
use Rattle.vc_compile_plan.specs.Variables.{by_slot}
use Rattle.vc_compile_numbering.specs.Growing.{seen, with_drafts}
use Rattle.vc_compile_layout.specs.Standing.{layout_seen}
use Rattle.vc_compile_sites.specs.Standing.{asked_seen, entry_seen, site_seen}
use Rattle.vc_compile_shown.proofs.requirements.push_requirements_of_members.Given as goal

abbrev pub invariant-loop-member : goal.invariant-loop-member
invariant-loop-member l =
    with_drafts requirement_brings requirement_from (seen l.out)
    (flat_map (λ m. requirements_of (layout_seen l.layout) (site_seen l.site)
    (named_at (layout_seen l.layout) l.number m) (slice_get (layout_seen l.layout).model.characteristics m))
    (drop l.member-index l.members))
    ≡ with_drafts requirement_brings requirement_from (seen l.fn.out)
    (flat_map (λ m. requirements_of (layout_seen l.layout) (site_seen l.site)
    (named_at (layout_seen l.layout) l.number m) (slice_get (layout_seen l.layout).model.characteristics m)) l.members)
