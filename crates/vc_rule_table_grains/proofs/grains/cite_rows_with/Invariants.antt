-- What is cited so far, with the rows from here on, is all.
use Rattle.std.proofs.Common.{◌≡◌, length}
use Rattle.std.specs.List.{filter}
use Rattle.vc_rule_premises.specs.Citing.{cited_all}
use Rattle.vc_rule_table.specs.Noting.{AreNotes}
use Rattle.vc_rule_table_grains.specs.Calls.{has, reasons_of}
use Rattle.vc_rule_table_grains.proofs.grains.cite_rows_with.Given as goal

abbrev pub invariant-loop-rest : goal.invariant-loop-rest
invariant-loop-rest g l =
    let has_it = has l.call l.grain in
    (cited_all l.out (reasons_of g.V.View.seen l.call (filter has_it l.rest))
    ≡ cited_all l.fn.out (reasons_of g.V.View.seen l.call (filter has_it l.call.rows.now)))
    × AreNotes l.call.plan.now (g.V.View.seen l.call.view.now) l.call.columns.now l.rest l.noted

abbrev pub decreases-loop-rest : goal.decreases-loop-rest
decreases-loop-rest g l = length l.rest
