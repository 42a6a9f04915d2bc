use Rattle.std.proofs.Common.{◌≡◌, ◌++◌, drop, map}
use Rattle.vc_syntax_tree.specs.Trees.{binding_of}
use Rattle.vc_types_dependency.specs.DeclaredNames.{names_seen}
use Rattle.vc_types_dependency.proofs.doubles.put_columns.Given as goal

abbrev pub invariant-loop-binding : goal.invariant-loop-binding
invariant-loop-binding l = names_seen l.out
    ++ map (λ b. b.column.name) (map binding_of (drop l.binding-index l.bindings))
    ≡ names_seen l.fn.out ++ map (λ b. b.column.name) (map binding_of l.bindings)
