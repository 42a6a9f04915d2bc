-- What the rows from here on say is what all say.
use Rattle.std.proofs.Common.{◌≡◌, length}
use Rattle.std.specs.List.{filter, list_any}
use Rattle.vc_rule_table.specs.Noting.{AreNotes}
use Rattle.vc_rule_table_grains.specs.Calls.{has, is_possible}
use Rattle.vc_rule_table_grains.proofs.grains.some_row_brings.Given as goal

abbrev pub invariant-loop-rest : goal.invariant-loop-rest
invariant-loop-rest g l =
    let possible = is_possible g.V.View.seen l.call in
    (list_any (has l.call l.grain) (filter possible l.rest)
    ≡ list_any (has l.call l.grain) (filter possible l.call.rows.now))
    × AreNotes l.call.plan.now (g.V.View.seen l.call.view.now) l.call.columns.now l.rest l.noted

abbrev pub decreases-loop-rest : goal.decreases-loop-rest
decreases-loop-rest g l = length l.rest
