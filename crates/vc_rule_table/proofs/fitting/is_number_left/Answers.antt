use Rattle.std.proofs.Common.{◌∙◌, ap, not, sym}
use Rattle.vc_rule_table.proofs.FittingLemmas.{left_number, left_no_number}
use Rattle.vc_rule_table.proofs.fitting.is_number_left.Goals as goal

pub returns-in-Some : goal.returns-in-Some
returns-in-Some g c =
    ap not c.out.ensures
    ∙ left_number c.args.number c.args.grains.now c.count-count.ensures.ascending
    (g.V.View.seen c.args.view.now) c.args.var c.in-Some.grain (sym c.in-Some.is ∙ c.find.ensures)

pub returns-in-None : goal.returns-in-None
returns-in-None g c =
    left_no_number c.args.number c.args.grains.now c.count-count.ensures.ascending
    (g.V.View.seen c.args.view.now) c.args.var (sym c.in-None.is ∙ c.find.ensures)
