use Rattle.std.proofs.Common.{List, ap, ◌∙◌}
use Rattle.vc_plan.specs.declared.rules.Binding.{Binding}
use Rattle.vc_rule_premises.specs.Citing.{cited_all}
use Rattle.vc_rule_table.specs.Reasons.{rows_reasons}
use Rattle.vc_rule_table.proofs.AgreedLemmas.{all_columns}
use Rattle.vc_rule_table_saying.proofs.sharing.cite_all.Goals as goal

pub returns : goal.returns
returns g c =
    let call = c.args.call.now in
    c.cite_rows.ensures
    ∙ ap (λ (columns : List Binding). cited_all c.args.out.now
    (rows_reasons call.plan.now (g.V.View.seen call.view.now) columns call.rows.now)) (all_columns call.columns.now)
