use Rattle.std.proofs.Common.{◌≡◌, ◌++◌, drop, flat_map}
use Rattle.vc_syntax_tree.specs.Trees.{dependency_of}
use Rattle.vc_compile_plan.specs.Texts.{texts_in}
use Rattle.vc_compile_uses.specs.Growing.{texts_seen}
use Rattle.vc_compile_uses.proofs.mentions.put_mentions.Given as goal

abbrev pub invariant-loop-named : goal.invariant-loop-named
invariant-loop-named l =
    texts_seen l.out ++ flat_map (λ named. texts_in (dependency_of named.tree)) (drop l.named-index l.dependencies)
    ≡ texts_seen l.fn.out ++ flat_map (λ named. texts_in (dependency_of named.tree)) l.dependencies
