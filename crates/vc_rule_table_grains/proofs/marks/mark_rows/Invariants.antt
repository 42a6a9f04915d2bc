-- With the rows from here on the marks tell of all.
use Rattle.std.proofs.Common.{length}
use Rattle.vc_plan.specs.TableRows.{columns_of, is_possible_in, other_columns}
use Rattle.vc_rule_table.specs.Noting.{AreNotes}
use Rattle.vc_rule_table_grains.specs.Marking.{TellsMarks}
use Rattle.vc_rule_table_grains.proofs.marks.mark_rows.Given as goal

abbrev pub invariant-loop-rest : goal.invariant-loop-rest
invariant-loop-rest g l =
    let seen = g.V.View.seen l.view in
    TellsMarks l.domain (columns_of l.var l.columns) (is_possible_in l.plan seen (other_columns l.var l.columns)) l.rest
    l.rows l.had
    × AreNotes l.plan seen l.columns l.rest l.noted

abbrev pub decreases-loop-rest : goal.decreases-loop-rest
decreases-loop-rest g l = length l.rest
