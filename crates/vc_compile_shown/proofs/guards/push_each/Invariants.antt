use Rattle.std.proofs.Common.{◌≡◌, drop, map, flat_map, slice_get, Some}
use Rattle.vc_compile_plan.specs.Numbering.{guard_brings, guard_from}
use Rattle.vc_compile_plan.specs.Shown.{GuardDraft, choice_at, guards_among, guards_of, guards_at}
use Rattle.vc_compile_plan.specs.Sites.{named_at}
use Rattle.vc_compile_plan.specs.Variables.{by_slot}
use Rattle.vc_compile_numbering.specs.Growing.{seen, with_drafts}
use Rattle.vc_compile_layout.specs.Standing.{layout_seen}
use Rattle.vc_compile_sites.specs.Standing.{asked_seen, entry_seen, site_seen}
use Rattle.vc_compile_shown.proofs.guards.push_each.Given as goal

abbrev pub invariant-loop-asked : goal.invariant-loop-asked
invariant-loop-asked l =
    with_drafts guard_brings guard_from (seen l.out)
    (map (λ a. record {
      at = l.guarded.at;
      value = l.guarded.value;
      choice =
          choice_at (layout_seen l.layout) (site_seen l.site) a;
    }) (map asked_seen (drop l.asked-index l.preconditions)))
    ≡ with_drafts guard_brings guard_from (seen l.fn.out)
    (map (λ a. record {
      at = l.guarded.at;
      value = l.guarded.value;
      choice =
          choice_at (layout_seen l.layout) (site_seen l.site) a;
    }) (map asked_seen l.preconditions))
