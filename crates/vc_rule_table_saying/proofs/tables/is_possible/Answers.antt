use Rattle.std.proofs.Common.{List, ap, ◌∙◌}
use Rattle.vc_plan.specs.declared.rules.Binding.{Binding}
use Rattle.vc_plan.specs.TableRows.{is_possible_in}
use Rattle.vc_rule_table.proofs.AgreedLemmas.{all_columns}
use Rattle.vc_rule_table_saying.proofs.tables.is_possible.Goals as goal

pub returns : goal.returns
returns g c =
    let call = c.args.call.now in
    c.is_possible_in.ensures
    ∙ ap (λ (columns : List Binding). is_possible_in call.plan.now (g.V.View.seen call.view.now) columns
    c.args.row.now) (all_columns call.columns.now)
