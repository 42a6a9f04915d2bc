use Rattle.std.proofs.Common.{ap, not, ◌∙◌}
use Rattle.std.specs.List.{filter}
use Rattle.vc_plan.specs.declared.atoms.Atom.{Atom}
use Rattle.vc_plan.specs.Seen.{says}
use Rattle.vc_plan.specs.TableRows.{columns_of, value_if}
use Rattle.vc_rule_table.specs.Cells.{agrees}
use Rattle.vc_rule_table.proofs.AgreedLemmas.{agreed_first, agreed_none}
use Rattle.vc_rule_table_grains.proofs.ConcludingSteps.{new_first}
use Rattle.vc_rule_table_saying.specs.Calls.{is_possible_for, rows_for}
use Rattle.vc_rule_table_saying.proofs.agreed.newly_agreed.Goals as goal

pub returns-in-Some : goal.returns-in-Some
returns-in-Some g c =
    let call = c.args.call.now in
    let seen = g.V.View.seen in
    let own = columns_of c.args.var call.columns.now in
    let passes = agrees call.plan.now c.args.var own (rows_for seen call c.args.var) in
    let new = λ (a : Atom). not (says (seen call.view.now) a) in
    c.if_agreed.ensures
    ∙ (new_first passes new c.args.var c.first_cell.result c.if_new-cell.result c.if_new-cell.ensures
    ∙ ap (filter new) (ap (value_if passes c.args.var) c.first_cell.ensures
    ∙ agreed_first call.plan.now c.args.var own (is_possible_for seen call c.args.var) call.rows.now c.in-Some.row.now
    c.in-Some.ensures.some))

pub returns-in-None : goal.returns-in-None
returns-in-None g c =
    let call = c.args.call.now in
    let seen = g.V.View.seen in
    ap (filter (λ (a : Atom). not (says (seen call.view.now) a)))
    (agreed_none call.plan.now c.args.var (columns_of c.args.var call.columns.now)
    (is_possible_for seen call c.args.var) call.rows.now c.in-None.ensures.none)
