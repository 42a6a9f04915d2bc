-- A column that is noted in all rows.
use Rattle.std.specs.Prelude.{Bool, List, slice_get}
use Rattle.vc_value.specs.declared.value.Value.{Value}
use Rattle.vc_plan.specs.Seen.{Seen}
use Rattle.vc_plan.specs.TableRows.{cell_passes}
use Rattle.vc_rule_yield.specs.declared.scratch.Note.{Note}
use Rattle.vc_rule_table.specs.declared.notes.NotedColumn.{NotedColumn}
use Rattle.vc_rule_table.specs.Cells.{FewGrains}
use Rattle.vc_rule_table.specs.Fitting.{IsTest, LeftOf, test_passes}
use Rattle.vc_rule_table.specs.Noting.{next_note}

-- what is known of it
abbrev pub IsNoting : {View : Type 0} → (View → Seen) → NotedColumn View → Type 0
IsNoting seen noting =
    (FewGrains noting.plan.now)
    × (IsTest noting.plan.now (seen noting.view.now) noting.column.operand noting.test
    × LeftOf noting.plan.now (seen noting.view.now) noting.left.now noting.test)

-- whether the row's cell passes the test
abbrev pub is_fitting : {View : Type 0} → (View → Seen) → NotedColumn View → List Value → Bool
is_fitting seen noting row =
    cell_passes (test_passes noting.plan.now (seen noting.view.now) noting.test) (slice_get row noting.column.column)

-- the note of the row with the column
abbrev pub noted_next : {View : Type 0} → (View → Seen) → NotedColumn View → List Value → Note → Note
noted_next seen noting row note =
    next_note noting.plan.now (seen noting.view.now) noting.columns.now noting.place noting.column row note
