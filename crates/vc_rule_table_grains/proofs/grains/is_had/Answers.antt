use Rattle.std.proofs.Common.{ap, sym, ◌∙◌}
use Rattle.vc_rule_table_grains.specs.Keys.{grain_key}
use Rattle.vc_rule_table_grains.specs.Marking.{at_key}
use Rattle.vc_rule_table_grains.proofs.MarkLemmas.{mark_is}
use Rattle.vc_rule_table_grains.proofs.grains.is_had.Goals as goal

pub returns-in-Some : goal.returns-in-Some
returns-in-Some g c =
    let marked = c.args.marked.now in
    let call = marked.call.now in
    mark_is call.plan.now (g.V.View.seen call.view.now) call.columns.now call.var call.domain.now call.rows.now
    marked.marks.now marked.chained c.args.grain c.in-Some.mark c.requires.call.1
    (sym (ap (λ o. at_key o c.had_in.result.now) c.grain_key.ensures
    ∙ ap (at_key (grain_key call.domain.now c.args.grain)) c.had_in.ensures)
    ∙ (sym c.mark_at.ensures ∙ c.in-Some.is))
