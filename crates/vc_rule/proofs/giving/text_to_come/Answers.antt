use Rattle.std.proofs.Common.{◌∙◌, subst, sym}
use Rattle.vc_rule.specs.Giving.{GivesText}
use Rattle.vc_rule.proofs.GivingLaws.{gives_text}
use Rattle.vc_rule.proofs.giving.text_to_come.Goals as goal

pub returns-then-is_there : goal.returns-then-is_there
returns-then-is_there g c =
    let plan = c.args.plan.now in
    let seen = g.V.View.seen c.args.view.now in
    let text = c.in-Some.text in
    subst (λ r. GivesText plan seen c.args.rule.now c.args.var r text) (sym c.in-Some.ensures)
    (gives_text plan seen c.args.rule.now c.args.var text c.requires
    (sym c.is_free_for.ensures ∙ c.if-is_free_for.true) (sym c.is_there.ensures ∙ c.if-is_there.true))
