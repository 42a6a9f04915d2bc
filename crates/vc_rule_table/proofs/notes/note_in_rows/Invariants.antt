-- The rows so far are noted, the others are to be.
use Rattle.std.proofs.Common.{◌≡◌}
use Rattle.vc_rule_table.specs.Noting.{each_changed}
use Rattle.vc_rule_table.specs.NotingColumns.{noted_next}
use Rattle.vc_rule_table.proofs.ChangingLemmas.{changed_from}
use Rattle.vc_rule_table.proofs.notes.note_in_rows.Given as goal

abbrev pub invariant-loop-at : goal.invariant-loop-at
invariant-loop-at g l =
    let next = noted_next g.V.View.seen l.noting in
    changed_from next l.at l.rows l.notes ≡ each_changed next l.rows l.fn.notes
