use Rattle.std.proofs.Common.{◌≡◌, drop, flat_map}
use Rattle.std.specs.Prelude.{slice_get}
use Rattle.vc_compile_plan.specs.Uses.{constraints_in}
use Rattle.vc_compile_uses.specs.Marks.{mark_all}
use Rattle.vc_compile_uses.proofs.uses.mark_net_constraints.Given as goal

abbrev pub invariant-loop-net : goal.invariant-loop-net
invariant-loop-net l =
    mark_all l.marks (flat_map (λ net. constraints_in (slice_get l.model.nets net)) (drop l.net-index l.net-items))
    ≡ mark_all l.fn.marks (flat_map (λ net. constraints_in (slice_get l.model.nets net)) l.net-items)
