use Rattle.std.proofs.Common.{ap, refl, sym, ◌∙◌}
use Rattle.vc_rule_premises.specs.Saying.{taken}
use Rattle.vc_rule_sides.specs.Assigning.{assigned_given, equal_side_said}
use Rattle.vc_rule_sides.specs.Comparing.{values_in}
use Rattle.vc_rule_sides.proofs.SidesLaws.{none_clashes}
use Rattle.vc_rule_sides.proofs.equating.say_sides.Goals as goal

pub returns-else-is_clash-2 : goal.returns-else-is_clash-2
returns-else-is_clash-2 g c =
    let plan = c.args.plan.now in
    let seen = g.V.View.seen c.args.view.now in
    let s = c.args.first in
    let t = c.args.second in
    c.say_side-else-is_clash-2-2.ensures
    ∙ (ap (λ y. taken y (equal_side_said plan seen t)) c.say_side-else-is_clash-2.ensures
    ∙ none_clashes seen (values_in plan seen s.other) (values_in plan seen t.other) (assigned_given s.assigned)
    (assigned_given t.assigned)
    (equal_side_said plan seen s) (equal_side_said plan seen t) c.args.out.now refl refl
    (sym c.is_clash.ensures ∙ c.if-is_clash.false) (sym c.is_clash-else-is_clash.ensures ∙ c.if-is_clash-2.false))
