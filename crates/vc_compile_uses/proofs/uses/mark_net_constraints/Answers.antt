use Rattle.std.proofs.Common.{◌∙◌, ap}
use Rattle.std.specs.Prelude.{slice_get}
use Rattle.vc_compile_plan.specs.Uses.{constraints_in}
use Rattle.vc_compile_uses.specs.Marks.{mark_all}
use Rattle.vc_compile_uses.proofs.MarkLemmas.{mark_next}
use Rattle.vc_compile_uses.proofs.uses.mark_net_constraints.Goals as goal

pub loop-net-preserved : goal.loop-net-preserved
loop-net-preserved c =
    mark_next (λ net. constraints_in (slice_get c.args.model.now.nets net))
    c.as_slice-net-items.result.now c.loop-net.net-index _ _ _ _ c.loop-net-test.true
    (c.mark_numbers.ensures ∙ ap (mark_all c.loop-net.marks) c.constraints_of.ensures) c.loop-net.invariant
