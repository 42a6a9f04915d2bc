-- What follows where the variable isn't restrictable is the value that all rows agree on.
use Rattle.std.proofs.Common.{List, ap, sym, ◌∙◌}
use Rattle.std.specs.List.{filter}
use Rattle.vc_value.specs.declared.value.Value.{Value}
use Rattle.vc_plan.specs.TableRows.{agreed, columns_of}
use Rattle.vc_check_gives.specs.Parts.{all_said, part_given}
use Rattle.vc_check_table.specs.Columns.{possible_elsewhere}
use Rattle.vc_check_table.proofs.TableLemmas.{for_agreed}
use Rattle.vc_check_table.proofs.table.says_for.Goals as goal

pub returns-else-is_restrictable : goal.returns-else-is_restrictable
returns-else-is_restrictable g c =
    let plan = c.args.plan.now in
    let seen = g.V.View.seen c.args.view.now in
    let v = c.args.var in
    let columns = c.args.columns.now in
    c.are_said.ensures
    ∙ ap (all_said seen)
    (for_agreed plan seen c.args.table columns v c.agreed-value.result (part_given plan c.value_part.result)
    (sym c.is_restrictable.ensures ∙ c.if-is_restrictable.false)
    (c.agreed-value.ensures
    ∙ ap (λ (rows : List (List Value)). agreed plan v (columns_of v columns)
    (filter (possible_elsewhere plan seen v columns) rows)) c.rows_of-rows.ensures)
    c.value_part.ensures)
