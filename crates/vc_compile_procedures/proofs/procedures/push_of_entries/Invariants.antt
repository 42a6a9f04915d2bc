use Rattle.std.proofs.Common.{◌≡◌, drop, map, flat_map, slice_get}
use Rattle.vc_plan.specs.declared.procedures.Trigger.TheVariants.{Anyway}
use Rattle.vc_compile_plan.specs.Layouts.{tree_of}
use Rattle.vc_compile_plan.specs.Numbering.{procedure_brings, procedure_from}
use Rattle.vc_compile_plan.specs.Places.{statements_in}
use Rattle.vc_compile_plan.specs.Procedures.{ProcedureDraft, procedure_at, procedures_among, procedures_at, trigger_of}
use Rattle.vc_compile_plan.specs.Procedures.{uses_in, value_procedures}
use Rattle.vc_compile_plan.specs.Variables.{by_slot}
use Rattle.vc_compile_numbering.specs.Growing.{seen, with_drafts}
use Rattle.vc_compile_layout.specs.Standing.{layout_seen}
use Rattle.vc_compile_sites.specs.Standing.{entry_seen}
use Rattle.vc_compile_procedures.proofs.procedures.push_of_entries.Given as goal

abbrev pub invariant-loop-entry : goal.invariant-loop-entry
invariant-loop-entry l =
    with_drafts procedure_brings procedure_from (seen l.out)
    (flat_map (λ e. procedures_among (layout_seen l.layout) l.site.own l.slot (trigger_of l.named e.piece) e.uses)
    (map entry_seen (drop l.entry-index l.entries)))
    ≡ with_drafts procedure_brings procedure_from (seen l.fn.out)
    (flat_map (λ e. procedures_among (layout_seen l.layout) l.site.own l.slot (trigger_of l.named e.piece) e.uses)
    (map entry_seen l.entries))
