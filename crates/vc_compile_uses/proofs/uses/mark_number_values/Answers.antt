use Rattle.std.proofs.Common.{◌∙◌, ap}
use Rattle.vc_compile_uses.specs.Marks.{mark_all}
use Rattle.vc_compile_uses.proofs.MarkLemmas.{mark_next}
use Rattle.vc_compile_uses.proofs.uses.mark_number_values.Goals as goal

pub loop-value-preserved : goal.loop-value-preserved
loop-value-preserved c =
    mark_next (λ value. value.uses) c.args.values.now c.loop-value.value-index c.value-item.result _ _ _
    c.loop-value-test.true
    (c.mark_numbers.ensures ∙ ap (mark_all c.loop-value.marks) c.as_slice.ensures
    ∙ ap (λ value. mark_all c.loop-value.marks value.uses) c.value-item.is)
    c.loop-value.invariant
