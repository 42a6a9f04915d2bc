use Rattle.std.proofs.Common.{◌≡◌, ◌++◌, drop, map, flat_map}
use Rattle.vc_syntax_tree.specs.Trees.{binding_of}
use Rattle.vc_compile_plan.specs.Texts.{texts_in_term}
use Rattle.vc_compile_uses.specs.Growing.{texts_seen}
use Rattle.vc_compile_uses.proofs.mentions.put_bindings.Given as goal

abbrev pub invariant-loop-binding : goal.invariant-loop-binding
invariant-loop-binding l =
    texts_seen l.out ++ flat_map (λ binding. texts_in_term binding.value)
    (map binding_of (drop l.binding-index l.bindings))
    ≡ texts_seen l.fn.out ++ flat_map (λ binding. texts_in_term binding.value) (map binding_of l.bindings)
