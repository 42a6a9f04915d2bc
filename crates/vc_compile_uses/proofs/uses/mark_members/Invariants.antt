use Rattle.std.proofs.Common.{◌≡◌, drop, flat_map}
use Rattle.std.specs.Prelude.{slice_get}
use Rattle.vc_compile_plan.specs.Uses.{uses_of_characteristic}
use Rattle.vc_compile_uses.specs.Marks.{mark_all}
use Rattle.vc_compile_uses.proofs.uses.mark_members.Given as goal

abbrev pub invariant-loop-member : goal.invariant-loop-member
invariant-loop-member l =
    mark_all l.marks
    (flat_map (λ c. uses_of_characteristic (slice_get l.model.characteristics c)) (drop l.member-index l.members))
    ≡ mark_all l.fn.marks (flat_map (λ c. uses_of_characteristic (slice_get l.model.characteristics c)) l.members)
