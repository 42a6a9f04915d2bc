use Rattle.std.proofs.Common.{◌∙◌, ap}
use Rattle.vc_compile_uses.specs.Marks.{mark_all}
use Rattle.vc_compile_uses.proofs.MarkLemmas.{mark_next}
use Rattle.vc_compile_uses.proofs.uses.mark_nets.Goals as goal

pub loop-net-preserved : goal.loop-net-preserved
loop-net-preserved c =
    mark_next (λ net. net.constraints) c.args.nets.now c.loop-net.net-index c.net-item.result _ _ _ c.loop-net-test.true
    (c.mark_numbers.ensures ∙ ap (mark_all c.loop-net.marks) c.as_slice.ensures
    ∙ ap (λ net. mark_all c.loop-net.marks net.constraints) c.net-item.is)
    c.loop-net.invariant
