use Rattle.std.proofs.Common.{ap, ◌∙◌}
use Rattle.vc_rule_yield.specs.Yielding.{clashed}
use Rattle.vc_rule_premises.specs.Citing.{cited_all}
use Rattle.vc_rule_premises.proofs.CitingLemmas.{cited_append}
use Rattle.vc_rule_sides.specs.Comparing.{values_in}
use Rattle.vc_rule_sides.proofs.comparing.clash_by_values.Goals as goal

pub returns : goal.returns
returns g c =
    let seen = g.V.View.seen c.args.view.now in
    let left = values_in c.args.plan.now seen c.args.left in
    let right = values_in c.args.plan.now seen c.args.right in
    c.clash_now.ensures
    ∙ ap clashed (c.cite_values-2.ensures
    ∙ (ap (λ y. cited_all y right) c.cite_values.ensures ∙ cited_append c.args.out.now left right))
