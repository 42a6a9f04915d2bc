-- The notes tell of the columns so far.
use Rattle.std.proofs.Common.{take}
use Rattle.vc_rule_table.specs.Noting.{AreNotesOf}
use Rattle.vc_rule_table.proofs.notes.note_columns.Given as goal

abbrev pub invariant-loop-place : goal.invariant-loop-place
invariant-loop-place g l =
    AreNotesOf l.plan (g.V.View.seen l.view) l.columns (take l.place l.columns) l.rows l.notes.rows
