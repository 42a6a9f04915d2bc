-- What all rows agree on is a cell of the first that is possible.
use Rattle.std.proofs.Common.{ap, sym, ◌∙◌}
use Rattle.vc_plan.specs.TableRows.{columns_of, value_if}
use Rattle.vc_check_table.specs.Columns.{agreed_if, possible_elsewhere}
use Rattle.vc_check_table.proofs.ColumnLemmas.{agreed_first, agreed_none}
use Rattle.vc_check_table.proofs.agreed.agreed.Goals as goal

pub returns-in-Some : goal.returns-in-Some
returns-in-Some g c =
    let plan = c.args.plan.now in
    let seen = g.V.View.seen c.args.view.now in
    let v = c.args.var in
    let columns = c.args.columns.now in
    let rows = c.args.rows.now in
    c.value_if_agreed.ensures
    ∙ (ap (value_if (agreed_if plan seen v columns rows) v) c.first_cell-value.ensures
    ∙ sym (agreed_first plan v (columns_of v columns) (possible_elsewhere plan seen v columns) rows c.in-Some.row.now
    c.in-Some.ensures.some))

pub returns-in-None : goal.returns-in-None
returns-in-None g c =
    let plan = c.args.plan.now in
    let v = c.args.var in
    let columns = c.args.columns.now in
    sym (agreed_none plan v (columns_of v columns) (possible_elsewhere plan (g.V.View.seen c.args.view.now) v columns)
    c.args.rows.now c.in-None.ensures.none)
