use Rattle.std.proofs.Common.{ℕ, List, map, slice_get, None, Some}
use Rattle.vc_compile_plan.specs.Numbering.{requirement_brings, requirement_from}
use Rattle.vc_compile_plan.specs.Shown.{RequirementDraft, requirements_of, requirements_at}
use Rattle.vc_compile_plan.specs.Sites.{named_at}
use Rattle.vc_compile_plan.specs.Variables.{by_slot}
use Rattle.vc_compile_numbering.specs.Growing.{seen, with_drafts}
use Rattle.vc_compile_layout.specs.Standing.{layout_seen}
use Rattle.vc_compile_sites.specs.Standing.{asked_seen, entry_seen, site_seen}
use Rattle.vc_compile_numbering.proofs.StepLemmas.{flat_step, mapped_step, slot_step}
use Rattle.vc_compile_shown.proofs.requirements.push_requirements_of_members.Goals as goal

pub loop-member-preserved : goal.loop-member-preserved
loop-member-preserved c =
    let layout = layout_seen c.args.layout.now in
    let drafts : ℕ → List RequirementDraft
    = λ m. requirements_of layout (site_seen c.args.site.now) (named_at layout c.args.number m)
    (slice_get layout.model.characteristics m) in
    flat_step requirement_brings requirement_from drafts c.args.members.now c.loop-member.member-index 0 _
    (seen c.loop-member.out) (seen c.push_requirements_of_member.new.out)
    c.loop-member-test.true c.loop-member.invariant c.in_ok-push_requirements_of_member.ensures
