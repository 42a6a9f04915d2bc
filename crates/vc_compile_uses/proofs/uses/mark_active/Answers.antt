use Rattle.std.specs.Prelude.{slice_get}
use Rattle.vc_compile_plan.specs.Uses.{net_constraints}
use Rattle.vc_compile_uses.proofs.MarkLemmas.{mark_next}
use Rattle.vc_compile_uses.proofs.uses.mark_active.Goals as goal

pub loop-slot-preserved : goal.loop-slot-preserved
loop-slot-preserved c =
    mark_next (λ slot. net_constraints c.args.model.now (slice_get c.args.model.now.objects slot.object))
    c.args.slots.now c.loop-slot.slot-index _ _ _ _ c.loop-slot-test.true c.mark_constraints_at.ensures
    c.loop-slot.invariant
