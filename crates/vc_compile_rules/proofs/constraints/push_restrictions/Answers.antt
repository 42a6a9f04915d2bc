use Rattle.std.proofs.Common.{◌+◌, ap, arith, drop, length, map, length-drop}
use Rattle.std.proofs.lemmas.List.{length-map}
use Rattle.vc_syntax_tree.specs.Trees.{constraint_of, restriction_of}
use Rattle.vc_compile_plan.specs.Rules.{restriction_drafts}
use Rattle.vc_compile_numbering.specs.Growing.{seen}
use Rattle.vc_compile_layout.specs.Standing.{layout_seen}
use Rattle.vc_compile_rules.proofs.RuleLemmas.{restrictions_are_counted, too_many_if}
use Rattle.vc_compile_rules.proofs.constraints.push_restrictions.Goals as goal

pub returns-then-len-ge-MOST_RULES : goal.returns-then-len-ge-MOST_RULES
returns-then-len-ge-MOST_RULES c =
    let layout = layout_seen c.args.layout.now in
    let constraint = constraint_of c.args.constraint.now in
    let slots = c.args.site.now.slots.now in
    let place = c.loop-place.place in
    let all = c.args.constraint.now.restrictions in
    let rest = drop place all in
    let counted
    = restrictions_are_counted layout c.args.dependency constraint slots (1 + place) (map restriction_of rest) in
    let mapped = length-map rest restriction_of in
    let dropped = length-drop place all in
    let count = ap length c.as_slice-restrictions.ensures in
    too_many_if (seen c.args.out.now) (seen c.loop-place.out)
    (restriction_drafts layout c.args.dependency constraint slots 1 (map restriction_of all))
    (restriction_drafts layout c.args.dependency constraint slots (1 + place) (map restriction_of rest))
    c.loop-place.invariant
    (omega (arith, c.len.ensures, c.if-len-ge-MOST_RULES.true))
    (omega (arith, counted, mapped, dropped, count, c.loop-place-test.true))
