use Rattle.vc_plan.specs.declared.conditions.Piece.TheVariants.{OneText}
use Rattle.vc_compile_sites.specs.declared.entries.Entry.{Entry}
use Rattle.std.proofs.Common.{[], ℕ, List, map, slice_get, None, Some}
use Rattle.vc_compile_plan.specs.Numbering.{guard_brings, guard_from}
use Rattle.vc_compile_plan.specs.Shown.{GuardDraft, choice_at, guards_among, guards_of, guards_at}
use Rattle.vc_compile_plan.specs.Sites.{named_at}
use Rattle.vc_compile_plan.specs.Variables.{by_slot}
use Rattle.vc_compile_numbering.specs.Growing.{seen, with_drafts}
use Rattle.vc_compile_layout.specs.Standing.{layout_seen}
use Rattle.vc_compile_sites.specs.Standing.{asked_seen, entry_seen, site_seen}
use Rattle.vc_compile_numbering.proofs.StepLemmas.{flat_step, mapped_step, slot_step}
use Rattle.vc_compile_shown.proofs.guards.push_guards_of_values.Goals as goal

pub loop-entry-preserved : goal.loop-entry-preserved
loop-entry-preserved c =
    let none : Entry = record { piece = OneText 0; uses = record { ref_ptr = (0, 0); now = [] } } in
    mapped_step guard_brings guard_from
    (λ e. guards_among (layout_seen c.args.layout.now) (site_seen c.args.site.now) c.args.at (Some e.piece) e.uses)
    entry_seen
    c.args.entries.now c.loop-entry.entry-index none _ (seen c.loop-entry.out) (seen c.push_guards_of_value.new.out)
    c.loop-entry-test.true c.loop-entry.invariant c.in_ok-push_guards_of_value.ensures
