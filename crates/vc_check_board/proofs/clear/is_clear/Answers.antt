-- Where all are named, the set is clear just where each stands well.
use Rattle.std.proofs.Common.{◌∙◌, sym}
use Rattle.vc_check_board.proofs.ClearLemmas.{clear_where_named}
use Rattle.vc_check_board.proofs.clear.is_clear.Goals as goal

pub returns-then-all_named : goal.returns-then-all_named
returns-then-all_named g c =
    c.all_fit.ensures
    ∙ clear_where_named c.args.plan.now c.requires.grains c.args.set.now (g.V.View.seen c.args.view.now)
    c.requires.said (sym c.all_named.ensures ∙ c.if-all_named.true)
