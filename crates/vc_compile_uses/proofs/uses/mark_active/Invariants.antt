use Rattle.std.proofs.Common.{◌≡◌, drop, flat_map}
use Rattle.std.specs.Prelude.{slice_get}
use Rattle.vc_compile_plan.specs.Uses.{net_constraints}
use Rattle.vc_compile_uses.specs.Marks.{mark_all}
use Rattle.vc_compile_uses.proofs.uses.mark_active.Given as goal

abbrev pub invariant-loop-slot : goal.invariant-loop-slot
invariant-loop-slot l =
    mark_all l.marks
    (flat_map (λ slot. net_constraints l.model (slice_get l.model.objects slot.object)) (drop l.slot-index l.slots))
    ≡ mark_all l.fn.marks (flat_map (λ slot. net_constraints l.model (slice_get l.model.objects slot.object)) l.slots)
