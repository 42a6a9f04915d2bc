use Rattle.std.proofs.Common.{ℕ, List, map, option_map, slice_get, Option, None, Some}
use Rattle.vc_plan.specs.declared.procedures.Trigger.TheVariants.{Anyway}
use Rattle.vc_compile_plan.specs.Layouts.{tree_of}
use Rattle.vc_compile_plan.specs.Numbering.{procedure_brings, procedure_from}
use Rattle.vc_compile_plan.specs.Places.{statements_in}
use Rattle.vc_compile_plan.specs.Procedures.{ProcedureDraft, procedure_at, procedures_among, procedures_at, trigger_of}
use Rattle.vc_compile_plan.specs.Procedures.{uses_in, value_procedures}
use Rattle.vc_compile_plan.specs.Variables.{by_slot}
use Rattle.vc_compile_numbering.specs.Growing.{seen, with_drafts}
use Rattle.vc_compile_layout.specs.Standing.{layout_seen}
use Rattle.vc_compile_sites.specs.Standing.{entry_seen}
use Rattle.vc_compile_numbering.proofs.StepLemmas.{flat_step, mapped_step, slot_step}
use Rattle.vc_compile_procedures.proofs.ProcedureLemmas.{filter_step}
use Rattle.vc_compile_procedures.proofs.procedures.push_procedures_of_slots.Goals as goal

pub loop-number-preserved : goal.loop-number-preserved
loop-number-preserved c =
    slot_step procedure_brings procedure_from (procedures_at (layout_seen c.args.layout.now)) c.args.slots.now
    c.loop-number.number
    (record { parent = None; depth = 0; object = 0; line = 0 }) _ (seen c.loop-number.out)
    (seen c.push_procedures_at.new.out)
    c.loop-number-test.true c.loop-number.invariant c.in_ok-push_procedures_at.ensures
