use Rattle.std.proofs.Common.{◌≡◌, drop}
use Rattle.vc_plan.specs.declared.procedures.Trigger.TheVariants.{Anyway}
use Rattle.vc_compile_plan.specs.Layouts.{tree_of}
use Rattle.vc_compile_plan.specs.Numbering.{procedure_brings, procedure_from}
use Rattle.vc_compile_plan.specs.Places.{statements_in}
use Rattle.vc_compile_plan.specs.Procedures.{ProcedureDraft, procedure_at, procedures_among, procedures_at, trigger_of}
use Rattle.vc_compile_plan.specs.Procedures.{uses_in, value_procedures}
use Rattle.vc_compile_plan.specs.Variables.{by_slot}
use Rattle.vc_compile_numbering.specs.Growing.{seen, with_drafts}
use Rattle.vc_compile_layout.specs.Standing.{layout_seen}
use Rattle.vc_compile_sites.specs.Standing.{entry_seen}
use Rattle.vc_compile_procedures.proofs.procedures.push_procedures_of_slots.Given as goal

abbrev pub invariant-loop-number : goal.invariant-loop-number
invariant-loop-number l =
    with_drafts procedure_brings procedure_from (seen l.out)
    (by_slot (procedures_at (layout_seen l.layout)) l.number (drop l.number l.slots))
    ≡ with_drafts procedure_brings procedure_from (seen l.fn.out)
    (by_slot (procedures_at (layout_seen l.layout)) 0 l.slots)
