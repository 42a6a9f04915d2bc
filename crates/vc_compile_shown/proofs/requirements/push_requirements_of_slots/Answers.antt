use Rattle.std.proofs.Common.{ℕ, List, map, slice_get, None, Some}
use Rattle.vc_compile_plan.specs.Numbering.{requirement_brings, requirement_from}
use Rattle.vc_compile_plan.specs.Shown.{RequirementDraft, requirements_of, requirements_at}
use Rattle.vc_compile_plan.specs.Sites.{named_at}
use Rattle.vc_compile_plan.specs.Variables.{by_slot}
use Rattle.vc_compile_numbering.specs.Growing.{seen, with_drafts}
use Rattle.vc_compile_layout.specs.Standing.{layout_seen}
use Rattle.vc_compile_sites.specs.Standing.{asked_seen, entry_seen, site_seen}
use Rattle.vc_compile_numbering.proofs.StepLemmas.{flat_step, mapped_step, slot_step}
use Rattle.vc_compile_shown.proofs.requirements.push_requirements_of_slots.Goals as goal

pub loop-number-preserved : goal.loop-number-preserved
loop-number-preserved c =
    slot_step requirement_brings requirement_from (requirements_at (layout_seen c.args.layout.now)) c.args.slots.now
    c.loop-number.number
    (record { parent = None; depth = 0; object = 0; line = 0 }) _ (seen c.loop-number.out)
    (seen c.push_requirements_at.new.out)
    c.loop-number-test.true c.loop-number.invariant c.in_ok-push_requirements_at.ensures
