use Rattle.std.proofs.Common.{◌≡◌, drop, flat_map}
use Rattle.vc_syntax_tree.specs.Trees.{constraint_of}
use Rattle.vc_compile_plan.specs.Rules.{restriction_drafts}
use Rattle.vc_compile_numbering.specs.Growing.{seen}
use Rattle.vc_compile_layout.specs.Standing.{layout_seen}
use Rattle.vc_compile_rules.proofs.RuleLemmas.{with_rules}
use Rattle.vc_compile_rules.proofs.constraints.push_at_tuples.Given as goal

abbrev pub invariant-loop-tuple : goal.invariant-loop-tuple
invariant-loop-tuple l =
    with_rules (seen l.out)
    (flat_map (λ tuple. restriction_drafts (layout_seen l.layout) l.dependency (constraint_of l.constraint) tuple 1
    (constraint_of l.constraint).restrictions) (drop l.tuple-index l.tuples))
    ≡ with_rules (seen l.fn.out)
    (flat_map (λ tuple. restriction_drafts (layout_seen l.layout) l.dependency (constraint_of l.constraint) tuple 1
    (constraint_of l.constraint).restrictions) l.tuples)
