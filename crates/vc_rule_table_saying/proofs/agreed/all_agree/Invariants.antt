-- What the rows from here on say is what all say.
use Rattle.std.proofs.Common.{◌≡◌, length}
use Rattle.std.specs.List.{filter, list_all}
use Rattle.vc_plan.specs.TableRows.{columns_of, has_cell}
use Rattle.vc_rule_table.specs.Noting.{AreNotes}
use Rattle.vc_rule_table_saying.specs.Calls.{is_possible_for}
use Rattle.vc_rule_table_saying.proofs.agreed.all_agree.Given as goal

abbrev pub invariant-loop-rest : goal.invariant-loop-rest
invariant-loop-rest g l =
    let has = has_cell (columns_of l.var l.call.columns.now) l.value in
    let possible = is_possible_for g.V.View.seen l.call l.var in
    (list_all has (filter possible l.rest) ≡ list_all has (filter possible l.call.rows.now))
    × AreNotes l.call.plan.now (g.V.View.seen l.call.view.now) l.call.columns.now l.rest l.noted

abbrev pub decreases-loop-rest : goal.decreases-loop-rest
decreases-loop-rest g l = length l.rest
