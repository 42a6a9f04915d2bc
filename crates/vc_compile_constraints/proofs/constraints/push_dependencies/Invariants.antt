use Rattle.std.proofs.Common.{◌≡◌, drop, flat_map}
use Rattle.vc_compile_plan.specs.Layouts.{tree_of}
use Rattle.vc_compile_plan.specs.Rules.{constraint_drafts}
use Rattle.vc_compile_numbering.specs.Growing.{seen}
use Rattle.vc_compile_rules.proofs.RuleLemmas.{with_rules}
use Rattle.vc_compile_layout.specs.Standing.{layout_seen}
use Rattle.vc_compile_constraints.proofs.constraints.push_dependencies.Given as goal

abbrev pub invariant-loop-number : goal.invariant-loop-number
invariant-loop-number l =
    with_rules (seen l.out)
    (flat_map (λ d. constraint_drafts (layout_seen l.layout) d (tree_of (layout_seen l.layout).model d))
    (drop l.number-index l.numbers))
    ≡ with_rules (seen l.fn.out)
    (flat_map (λ d. constraint_drafts (layout_seen l.layout) d (tree_of (layout_seen l.layout).model d)) l.numbers)
