-- What the rows from here on say is what all say.
use Rattle.std.proofs.Common.{◌≡◌, length}
use Rattle.std.specs.List.{list_any}
use Rattle.vc_plan.specs.TableRows.{is_possible_in}
use Rattle.vc_rule_table.specs.Noting.{AreNotes}
use Rattle.vc_rule_table_saying.proofs.tables.some_row_is_possible.Given as goal

abbrev pub invariant-loop-rest : goal.invariant-loop-rest
invariant-loop-rest g l =
    let seen = g.V.View.seen l.call.view.now in
    let possible = is_possible_in l.call.plan.now seen l.call.columns.now in
    (list_any possible l.rest ≡ list_any possible l.call.rows.now)
    × AreNotes l.call.plan.now seen l.call.columns.now l.rest l.noted

abbrev pub decreases-loop-rest : goal.decreases-loop-rest
decreases-loop-rest g l = length l.rest
