-- The first of the rows from here on is that of all.
use Rattle.std.proofs.Common.{◌≡◌, length}
use Rattle.std.specs.List.{find}
use Rattle.vc_rule_table.specs.Noting.{AreNotes}
use Rattle.vc_rule_table_saying.specs.Calls.{is_possible_for}
use Rattle.vc_rule_table_saying.proofs.agreed.first_possible.Given as goal

abbrev pub invariant-loop-rest : goal.invariant-loop-rest
invariant-loop-rest g l =
    let possible = is_possible_for g.V.View.seen l.call l.var in
    (find possible l.rest ≡ find possible l.call.rows.now)
    × AreNotes l.call.plan.now (g.V.View.seen l.call.view.now) l.call.columns.now l.rest l.noted

abbrev pub decreases-loop-rest : goal.decreases-loop-rest
decreases-loop-rest g l = length l.rest
