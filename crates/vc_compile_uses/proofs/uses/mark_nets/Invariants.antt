use Rattle.std.proofs.Common.{◌≡◌, drop, flat_map}
use Rattle.vc_compile_uses.specs.Marks.{mark_all}
use Rattle.vc_compile_uses.proofs.uses.mark_nets.Given as goal

abbrev pub invariant-loop-net : goal.invariant-loop-net
invariant-loop-net l =
    mark_all l.marks (flat_map (λ net. net.constraints) (drop l.net-index l.nets))
    ≡ mark_all l.fn.marks (flat_map (λ net. net.constraints) l.nets)
