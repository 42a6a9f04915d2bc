use Rattle.std.proofs.Common.{ap, sym, ◌∙◌}
use Rattle.std.specs.Prelude.{Option}
use Rattle.vc_value.specs.declared.value.Value.{Value}
use Rattle.vc_rule_grains.specs.Remaining.{remaining_of, left_by}
use Rattle.vc_rule_sides.proofs.SidesLaws.{one_is_left, several_are_left}
use Rattle.vc_rule_sides.proofs.sides.is_ruled_out.Goals as goal

pub returns-in-One : goal.returns-in-One
returns-in-One g c =
    let seen = g.V.View.seen c.args.view.now in
    let test = g.T.Test.passes c.args.test.now in
    one_is_left c.args.plan.now seen c.args.var test _ (sym c.is_restrictable.ensures ∙ c.if-is_restrictable.false)
    (ap (λ (o : Option Value). remaining_of (left_by c.args.plan.now seen c.args.var o test)) (sym c.value.ensures)
    ∙ (sym c.remaining_of.ensures ∙ c.in-One.is))

pub returns-in-Several : goal.returns-in-Several
returns-in-Several g c =
    let seen = g.V.View.seen c.args.view.now in
    let test = g.T.Test.passes c.args.test.now in
    several_are_left c.args.plan.now seen c.args.var test (sym c.is_restrictable.ensures ∙ c.if-is_restrictable.false)
    (ap (λ (o : Option Value). remaining_of (left_by c.args.plan.now seen c.args.var o test)) (sym c.value.ensures)
    ∙ (sym c.remaining_of.ensures ∙ c.in-Several.is))
