use Rattle.vc_plan.specs.declared.conditions.Piece.TheVariants.{OneText}
use Rattle.vc_compile_sites.specs.declared.entries.Entry.{Entry}
use Rattle.std.proofs.Common.{[], ℕ, List, map, option_map, slice_get, Option, None, Some}
use Rattle.vc_plan.specs.declared.procedures.Trigger.TheVariants.{Anyway}
use Rattle.vc_compile_plan.specs.Layouts.{tree_of}
use Rattle.vc_compile_plan.specs.Numbering.{procedure_brings, procedure_from}
use Rattle.vc_compile_plan.specs.Places.{statements_in}
use Rattle.vc_compile_plan.specs.Procedures.{ProcedureDraft, procedure_at, procedures_among, procedures_at, trigger_of}
use Rattle.vc_compile_plan.specs.Procedures.{uses_in, value_procedures}
use Rattle.vc_compile_plan.specs.Variables.{by_slot}
use Rattle.vc_compile_numbering.specs.Growing.{seen, with_drafts}
use Rattle.vc_compile_layout.specs.Standing.{layout_seen}
use Rattle.vc_compile_sites.specs.Standing.{entry_seen}
use Rattle.vc_compile_numbering.proofs.StepLemmas.{flat_step, mapped_step, slot_step}
use Rattle.vc_compile_procedures.proofs.ProcedureLemmas.{filter_step}
use Rattle.vc_compile_procedures.proofs.procedures.push_of_entries.Goals as goal

pub loop-entry-preserved : goal.loop-entry-preserved
loop-entry-preserved c =
    let none : Entry = record { piece = OneText 0; uses = record { ref_ptr = (0, 0); now = [] } } in
    mapped_step procedure_brings procedure_from
    (λ e. procedures_among (layout_seen c.args.layout.now) c.args.site.now.own c.args.slot.now
    (trigger_of c.args.named e.piece) e.uses) entry_seen
    c.args.entries.now c.loop-entry.entry-index none _ (seen c.loop-entry.out) (seen c.push_of_entry.new.out)
    c.loop-entry-test.true c.loop-entry.invariant c.in_ok-push_of_entry.ensures
