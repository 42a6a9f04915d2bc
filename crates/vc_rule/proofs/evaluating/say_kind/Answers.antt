use Rattle.std.proofs.Common.{sym, ◌∙◌, ap}
use Rattle.vc_rule_premises.specs.Saying.{taken}
use Rattle.vc_rule.specs.Evaluating.{kind_said}
use Rattle.vc_rule.proofs.evaluating.say_kind.Goals as goal

pub returns-in-Among : goal.returns-in-Among
returns-in-Among g c =
    c.say_among_or_text.ensures
    ∙ ap (λ k. taken c.args.out.now (kind_said c.args.plan.now (g.V.View.seen c.args.view.now) c.args.rule.now k))
    (sym c.in-Among.is)
