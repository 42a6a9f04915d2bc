use Rattle.std.proofs.Common.{ℕ, List, ◌+◌, ◌∙◌, ap, drop, flat_map, get_or, sym}
use Rattle.vc_compile_plan.specs.Layouts.{tree_of}
use Rattle.vc_compile_plan.specs.Rules.{Draft, constraint_drafts}
use Rattle.vc_compile_numbering.specs.Growing.{seen}
use Rattle.vc_compile_layout.specs.Standing.{layout_seen}
use Rattle.vc_compile_rules.proofs.RuleLemmas.{adds_enough, adds_too_many, with_rules}
use Rattle.vc_compile_constraints.proofs.ConstraintLemmas.{first_number}
use Rattle.vc_compile_constraints.proofs.constraints.push_dependencies.Goals as goal

pub returns-in-TooMany : goal.returns-in-TooMany
returns-in-TooMany c =
    let drafts : ℕ → List Draft
    = λ d. constraint_drafts (layout_seen c.args.layout.now) d (tree_of (layout_seen c.args.layout.now).model d) in
    let xs = c.args.numbers.now in
    let i = c.loop-number.number-index in
    let x = get_or xs i 0 in
    adds_too_many c.in_ok-push_dependency.field-0 (seen c.args.out.now) (seen c.loop-number.out)
    (seen c.push_dependency.new.out)
    (flat_map drafts xs) (drafts x) (flat_map drafts (drop (i + 1) xs)) c.in-TooMany.is c.in_ok-push_dependency.ensures
    (ap (with_rules (seen c.loop-number.out)) (sym (first_number drafts xs i c.loop-number-test.true))
    ∙ c.loop-number.invariant)

pub loop-number-preserved : goal.loop-number-preserved
loop-number-preserved c =
    let drafts : ℕ → List Draft
    = λ d. constraint_drafts (layout_seen c.args.layout.now) d (tree_of (layout_seen c.args.layout.now).model d) in
    let xs = c.args.numbers.now in
    let i = c.loop-number.number-index in
    let x = get_or xs i 0 in
    adds_enough c.in_ok-push_dependency.field-0 (seen c.args.out.now) (seen c.loop-number.out)
    (seen c.push_dependency.new.out)
    (flat_map drafts xs) (drafts x) (flat_map drafts (drop (i + 1) xs)) c.in-Enough.is c.in_ok-push_dependency.ensures
    (ap (with_rules (seen c.loop-number.out)) (sym (first_number drafts xs i c.loop-number-test.true))
    ∙ c.loop-number.invariant)
