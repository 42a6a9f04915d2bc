use Rattle.std.specs.Prelude.{slice_get}
use Rattle.vc_compile_plan.specs.Uses.{uses_of_object}
use Rattle.vc_compile_uses.proofs.MarkLemmas.{mark_next}
use Rattle.vc_compile_uses.proofs.uses.mark_standing.Goals as goal

pub loop-slot-preserved : goal.loop-slot-preserved
loop-slot-preserved c =
    mark_next (λ slot. uses_of_object c.args.model.now (slice_get c.args.model.now.objects slot.object))
    c.args.slots.now c.loop-slot.slot-index _ _ _ _ c.loop-slot-test.true c.mark_uses_at.ensures c.loop-slot.invariant
