-- What is cited so far, with the rows from here on, is all.
use Rattle.std.proofs.Common.{◌≡◌, length}
use Rattle.vc_rule_premises.specs.Citing.{cited_all}
use Rattle.vc_rule_table.specs.Cells.{columns_but}
use Rattle.vc_rule_table.specs.Reasons.{rows_reasons}
use Rattle.vc_rule_table.specs.Noting.{AreNotes}
use Rattle.vc_rule_table_grains.proofs.misfits.cite_rows.Given as goal

abbrev pub invariant-loop-rest : goal.invariant-loop-rest
invariant-loop-rest g l =
    (cited_all l.out (rows_reasons l.plan (g.V.View.seen l.view) (columns_but l.but l.columns) l.rest)
    ≡ cited_all l.fn.out (rows_reasons l.plan (g.V.View.seen l.view) (columns_but l.but l.columns) l.rows))
    × AreNotes l.plan (g.V.View.seen l.view) l.columns l.rest l.noted

abbrev pub decreases-loop-rest : goal.decreases-loop-rest
decreases-loop-rest g l = length l.rest
