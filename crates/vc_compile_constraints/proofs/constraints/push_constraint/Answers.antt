use Rattle.std.proofs.Common.{ap, arith, sym}
use Rattle.vc_syntax_tree.specs.Trees.{constraint_of, restriction_of}
use Rattle.vc_compile_plan.specs.Tuples.{tuples_of}
use Rattle.vc_compile_numbering.specs.Growing.{seen}
use Rattle.vc_compile_layout.specs.Standing.{layout_seen}
use Rattle.vc_compile_rules.proofs.RuleLemmas.{with_rules}
use Rattle.vc_compile_constraints.proofs.ConstraintLemmas.{no_more, none_at, some_at, some_more, told_of_none}
use Rattle.vc_compile_constraints.proofs.constraints.push_constraint.Goals as goal

pub returns-then-is_empty : goal.returns-then-is_empty
returns-then-is_empty c =
    let layout = layout_seen c.args.layout.now in
    let constraint = constraint_of c.args.constraint.now in
    let none
    = no_more restriction_of c.args.constraint.now.restrictions c.is_empty.result c.is_empty.ensures
    c.if-is_empty.true in
    sym (ap (with_rules (seen c.args.out.now))
    (none_at layout c.args.number constraint (tuples_of layout constraint) none))

pub returns-in-None : goal.returns-in-None
returns-in-None c =
    let layout = layout_seen c.args.layout.now in
    let constraint = constraint_of c.args.constraint.now in
    let some
    = some_more restriction_of c.args.constraint.now.restrictions c.is_empty.result c.is_empty.ensures
    c.if-is_empty.false in
    let few = some_at layout c.args.number constraint (tuples_of layout constraint) some in
    let many = told_of_none c.in_ok-tuples.field-0 c.in-None.is c.in_ok-tuples.ensures.none in
    omega (arith, few, many)
