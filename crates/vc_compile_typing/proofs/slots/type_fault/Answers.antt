use Rattle.std.proofs.Common.{None, ap, sym, flat_map, ◌∙◌}
use Rattle.vc_compile_layout.specs.Standing.{layout_seen}
use Rattle.vc_compile_typing.specs.Finding.{first_with, seen_if}
use Rattle.vc_compile_typing.proofs.FindingLemmas.{none_before, typed_in_parts}
use Rattle.vc_compile_plan.specs.Refusals.{first_of, type_faults, typed_constraints, typed_slot}
use Rattle.vc_compile_typing.proofs.slots.type_fault.Goals as goal

pub returns : goal.returns
returns c =
    let layout = layout_seen c.args.layout.now in
    let slots = flat_map (typed_slot layout) layout.slots in
    c.in_ok-first-2.ensures
    ∙ ap (λ all. first_with layout.model (seen_if c.in_ok-first.first) (flat_map (typed_slot layout) all))
    c.slots.ensures.slots
    ∙ ap (λ first. first_with layout.model first slots) c.in_ok-first.ensures
    ∙ sym (typed_in_parts layout.model None (typed_constraints layout.model) slots)
    ∙ none_before (first_of (type_faults layout))
