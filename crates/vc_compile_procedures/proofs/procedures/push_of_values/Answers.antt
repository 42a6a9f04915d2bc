use Rattle.std.proofs.Common.{ℕ, List, map, option_map, slice_get, Option, None, Some}
use Rattle.vc_plan.specs.declared.procedures.Trigger.TheVariants.{Anyway}
use Rattle.vc_compile_plan.specs.Layouts.{tree_of}
use Rattle.vc_compile_plan.specs.Numbering.{procedure_brings, procedure_from}
use Rattle.vc_compile_plan.specs.Places.{statements_in}
use Rattle.vc_compile_plan.specs.Procedures.{ProcedureDraft, procedure_at, procedures_among, procedures_at, trigger_of}
use Rattle.vc_compile_plan.specs.Procedures.{uses_in, value_procedures}
use Rattle.vc_compile_plan.specs.Variables.{by_slot}
use Rattle.vc_compile_numbering.specs.Growing.{seen, with_drafts}
use Rattle.vc_compile_layout.specs.Standing.{layout_seen}
use Rattle.vc_compile_sites.specs.Standing.{entry_seen}
use Rattle.vc_compile_numbering.proofs.StepLemmas.{flat_step, mapped_step, slot_step}
use Rattle.vc_compile_procedures.proofs.ProcedureLemmas.{filter_step}
use Rattle.vc_compile_procedures.proofs.procedures.push_of_values.Goals as goal

pub loop-member-preserved : goal.loop-member-preserved
loop-member-preserved c =
    flat_step procedure_brings procedure_from
    (value_procedures (layout_seen c.args.layout.now) c.args.site.now.own c.args.slot.now) c.args.members.now
    c.loop-member.member-index 0 _
    (seen c.loop-member.out) (seen c.push_of_value.new.out) c.loop-member-test.true c.loop-member.invariant
    c.in_ok-push_of_value.ensures
