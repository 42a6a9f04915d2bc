use Rattle.std.proofs.Common.{ℕ, List, ◌+◌, ◌++◌, ◌∙◌, ap, drop, flat_map, sym}
use Rattle.vc_syntax_tree.specs.Trees.{constraint_of}
use Rattle.vc_compile_plan.specs.Rules.{Draft, restriction_drafts}
use Rattle.vc_compile_numbering.specs.Growing.{seen}
use Rattle.vc_compile_layout.specs.Standing.{layout_seen}
use Rattle.vc_compile_rules.proofs.RuleLemmas.{adds_enough, adds_too_many, first_of_all, with_rules}
use Rattle.vc_compile_rules.proofs.constraints.push_at_tuples.Goals as goal

pub returns-in-TooMany : goal.returns-in-TooMany
returns-in-TooMany c =
    let constraint = constraint_of c.args.constraint.now in
    let drafts : List ℕ → List Draft
    = λ tuple. restriction_drafts (layout_seen c.args.layout.now) c.args.dependency constraint tuple 1
    constraint.restrictions in
    let xs = c.args.tuples.now in
    let i = c.loop-tuple.tuple-index in
    let rest = flat_map drafts (drop (i + 1) xs) in
    adds_too_many c.in_ok-push_restrictions.field-0 (seen c.args.out.now) (seen c.loop-tuple.out)
    (seen c.push_restrictions.new.out)
    (flat_map drafts xs) (drafts c.as_slice-in-loop-tuple.result.now) rest c.in-TooMany.is
    c.in_ok-push_restrictions.ensures
    (ap (with_rules (seen c.loop-tuple.out))
    (ap (λ tuple. drafts tuple ++ rest) c.as_slice-in-loop-tuple.ensures
    ∙ sym (first_of_all drafts xs i c.tuple-item.result c.loop-tuple-test.true c.tuple-item.is))
    ∙ c.loop-tuple.invariant)

pub loop-tuple-preserved : goal.loop-tuple-preserved
loop-tuple-preserved c =
    let constraint = constraint_of c.args.constraint.now in
    let drafts : List ℕ → List Draft
    = λ tuple. restriction_drafts (layout_seen c.args.layout.now) c.args.dependency constraint tuple 1
    constraint.restrictions in
    let xs = c.args.tuples.now in
    let i = c.loop-tuple.tuple-index in
    let rest = flat_map drafts (drop (i + 1) xs) in
    adds_enough c.in_ok-push_restrictions.field-0 (seen c.args.out.now) (seen c.loop-tuple.out)
    (seen c.push_restrictions.new.out)
    (flat_map drafts xs) (drafts c.as_slice-in-loop-tuple.result.now) rest c.in-Enough.is
    c.in_ok-push_restrictions.ensures
    (ap (with_rules (seen c.loop-tuple.out))
    (ap (λ tuple. drafts tuple ++ rest) c.as_slice-in-loop-tuple.ensures
    ∙ sym (first_of_all drafts xs i c.tuple-item.result c.loop-tuple-test.true c.tuple-item.is))
    ∙ c.loop-tuple.invariant)
