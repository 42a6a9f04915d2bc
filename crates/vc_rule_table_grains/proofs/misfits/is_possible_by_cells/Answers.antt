use Rattle.std.proofs.Common.{ap, ◌∙◌}
use Rattle.std.specs.Prelude.{is_none}
use Rattle.vc_plan.specs.TableRows.{is_possible}
use Rattle.vc_rule_table.specs.Cells.{columns_but}
use Rattle.vc_rule_table.proofs.CitingSteps.{none_found, none_told}
use Rattle.vc_rule_table_grains.proofs.misfits.is_possible_by_cells.Goals as goal

pub returns : goal.returns
returns g c =
    none_told c.first_misfit.result c.is_none.result c.is_none.ensures
    ∙ (ap is_none c.first_misfit.ensures
    ∙ none_found (is_possible c.args.plan.now (g.V.View.seen c.args.view.now) c.args.row.now)
    (columns_but c.args.but c.args.columns.now))
