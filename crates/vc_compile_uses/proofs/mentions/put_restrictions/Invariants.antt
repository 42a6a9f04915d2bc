use Rattle.std.proofs.Common.{◌≡◌, ◌++◌, drop, map, flat_map}
use Rattle.vc_syntax_tree.specs.Trees.{restriction_of}
use Rattle.vc_compile_plan.specs.Texts.{texts_in_restriction}
use Rattle.vc_compile_uses.specs.Growing.{texts_seen}
use Rattle.vc_compile_uses.proofs.mentions.put_restrictions.Given as goal

abbrev pub invariant-loop-restriction : goal.invariant-loop-restriction
invariant-loop-restriction l =
    texts_seen l.out ++ flat_map texts_in_restriction (map restriction_of (drop l.restriction-index l.restrictions))
    ≡ texts_seen l.fn.out ++ flat_map texts_in_restriction (map restriction_of l.restrictions)
