use Rattle.std.proofs.Common.{◌≡◌, ◌++◌, drop, map, false}
use Rattle.vc_compile_uses.proofs.marks.unmarked.Given as goal

abbrev pub invariant-loop-dependency : goal.invariant-loop-dependency
invariant-loop-dependency l =
    l.marks ++ map (λ d. false) (drop l._dependency-index l.dependencies) ≡ map (λ d. false) l.dependencies
