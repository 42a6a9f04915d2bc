use Rattle.std.proofs.Common.{◌≡◌, ◌+◌, drop, map}
use Rattle.vc_syntax_tree.specs.Trees.{constraint_of, restriction_of}
use Rattle.vc_compile_plan.specs.Rules.{restriction_drafts}
use Rattle.vc_compile_numbering.specs.Growing.{seen}
use Rattle.vc_compile_layout.specs.Standing.{layout_seen}
use Rattle.vc_compile_rules.proofs.RuleLemmas.{with_rules}
use Rattle.vc_compile_rules.proofs.constraints.push_restrictions.Given as goal

abbrev pub invariant-loop-place : goal.invariant-loop-place
invariant-loop-place l =
    with_rules (seen l.out)
    (restriction_drafts (layout_seen l.layout) l.dependency (constraint_of l.constraint) l.site.slots.now
    (1 + l.place) (map restriction_of (drop l.place l.constraint.restrictions)))
    ≡ with_rules (seen l.fn.out)
    (restriction_drafts (layout_seen l.layout) l.dependency (constraint_of l.constraint) l.site.slots.now
    1 (map restriction_of l.constraint.restrictions))
