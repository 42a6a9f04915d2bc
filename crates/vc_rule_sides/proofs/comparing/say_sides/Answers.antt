use Rattle.std.proofs.Common.{ap, sym, ◌∙◌}
use Rattle.vc_plan_values.specs.Values.{meant_if}
use Rattle.vc_rule_premises.specs.Saying.{taken}
use Rattle.vc_rule_sides.specs.Comparing.{values_in}
use Rattle.vc_rule_sides.specs.Sides.{side_given, side_said}
use Rattle.vc_rule_sides.proofs.SidesLaws.{related_premises, from_premises, none_clashes}
use Rattle.vc_rule_sides.proofs.comparing.say_sides.Goals as goal

pub returns-else-is_clash-2 : goal.returns-else-is_clash-2
returns-else-is_clash-2 g c =
    let plan = c.args.plan.now in
    let seen = g.V.View.seen c.args.view.now in
    let s = c.args.first in
    let t = c.args.second in
    let p = related_premises plan seen s.relation s.var (values_in plan seen s.other) (meant_if s.value) in
    let q = related_premises plan seen t.relation t.var (values_in plan seen t.other) (meant_if t.value) in
    c.say_side-else-is_clash-2-2.ensures
    ∙ (ap (λ y. taken y (side_said plan seen t)) c.say_side-else-is_clash-2.ensures
    ∙ none_clashes seen p q (side_given plan seen s) (side_given plan seen t) (side_said plan seen s)
    (side_said plan seen t) c.args.out.now
    (from_premises plan seen s.relation s.var (values_in plan seen s.other) (meant_if s.value))
    (from_premises plan seen t.relation t.var (values_in plan seen t.other) (meant_if t.value))
    (sym c.is_clash.ensures ∙ c.if-is_clash.false) (sym c.is_clash-else-is_clash.ensures ∙ c.if-is_clash-2.false))
