use Rattle.std.proofs.Common.{ℕ, List, map, slice_get, None, Some}
use Rattle.vc_plan.specs.declared.plans.Slot.{Slot}
use Rattle.vc_compile_plan.specs.Numbering.{item_brings, line_from, operation_from}
use Rattle.vc_compile_plan.specs.Shown.{ItemDraft, line_at, operation_at, operations_in}
use Rattle.vc_compile_plan.specs.Slots.{bill_of}
use Rattle.vc_compile_plan.specs.Variables.{by_slot}
use Rattle.vc_compile_numbering.specs.Growing.{seen, with_drafts}
use Rattle.vc_compile_layout.specs.Standing.{layout_seen}
use Rattle.vc_compile_sites.specs.Standing.{asked_seen, entry_seen, site_seen}
use Rattle.vc_compile_numbering.proofs.StepLemmas.{flat_step, mapped_step, slot_step}
use Rattle.vc_compile_shown.proofs.items.push_lines_of_slots.Goals as goal

pub loop-number-preserved : goal.loop-number-preserved
loop-number-preserved c =
    let layout = layout_seen c.args.layout.now in
    let drafts : ℕ → Slot → List ItemDraft = λ i s. map (line_at layout i s) (bill_of layout.model s.object) in
    slot_step item_brings line_from drafts c.args.slots.now c.loop-number.number
    (record { parent = None; depth = 0; object = 0; line = 0 }) _ (seen c.loop-number.out)
    (seen c.push_lines_at.new.out)
    c.loop-number-test.true c.loop-number.invariant c.in_ok-push_lines_at.ensures
