use Rattle.std.proofs.Common.{None, ap, flat_map, ◌∙◌}
use Rattle.std.proofs.lemmas.List.{take_all}
use Rattle.vc_compile_layout.specs.Standing.{layout_seen}
use Rattle.vc_compile_typing.specs.Alike.{is_alike}
use Rattle.vc_compile_typing.specs.Finding.{first_with, seen_if}
use Rattle.vc_compile_typing.proofs.SkippingLemmas.{skipping_step, typed_alike}
use Rattle.vc_compile_plan.specs.Refusals.{typed_slot}
use Rattle.vc_compile_typing.proofs.slots.with_slots.Goals as goal

pub loop-number-preserved : goal.loop-number-preserved
loop-number-preserved c =
    let layout = layout_seen c.args.layout.now in
    skipping_step layout.model (typed_slot layout) (is_alike layout) c.args.slots.now c.loop-number.number
    (record { parent = None; depth = 0; object = 0; line = 0 }) (seen_if c.args.before) (seen_if c.loop-number.first) _
    (typed_alike layout) c.loop-number-test.true c.loop-number.invariant c.in_ok-first.ensures

pub returns : goal.returns
returns c =
    let layout = layout_seen c.args.layout.now in
    c.loop-number.invariant
    ∙ ap (λ slots. first_with layout.model (seen_if c.args.before) (flat_map (typed_slot layout) slots))
    (take_all c.loop-number.number c.args.slots.now c.loop-number-test.false)
