use Rattle.std.proofs.Common.{◌≡◌, ◌++◌, drop, map}
use Rattle.vc_compile_tables.proofs.copies.dependency_names.Given as goal

abbrev pub invariant-loop-dependency : goal.invariant-loop-dependency
invariant-loop-dependency l =
    l.names ++ map (λ d. d.name) (drop l.dependency-index l.dependencies) ≡ map (λ d. d.name) l.dependencies
