-- What a restriction says is what its kind gives.
use Rattle.std.proofs.Common.{ap, sym, ◌∙◌}
use Rattle.vc_plan.specs.Gives.{kind_gives}
use Rattle.vc_check_givers.proofs.said.kind_says.Goals as goal

pub returns-in-Among : goal.returns-in-Among
returns-in-Among g c =
    c.among.ensures
    ∙ ap (kind_gives c.args.plan.now (g.V.View.seen c.args.view.now) c.args.rule.now) (sym c.in-Among.is)
