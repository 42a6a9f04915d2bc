-- What a table call with the notes of its rows says.
use Rattle.std.specs.Prelude.{ℕ, Bool, List, map}
use Rattle.std.specs.List.{filter}
use Rattle.vc_value.specs.declared.value.Value.{Value}
use Rattle.vc_plan.specs.declared.atoms.Atom.{Atom}
use Rattle.vc_plan.specs.Seen.{Seen}
use Rattle.vc_plan.specs.TableRows.{columns_of, is_possible_in, missing_grains, other_columns}
use Rattle.vc_rule_yield.specs.Yielding.{Conclusion}
use Rattle.vc_rule_table.specs.Cells.{FewGrains}
use Rattle.vc_rule_table.specs.Noting.{AreNotes}
use Rattle.vc_rule_table.specs.Reasons.{rows_reasons}
use Rattle.vc_rule_table.specs.TableSaid.{cell_agreed, concluded_newly, grain_out, new_conclusions}
use Rattle.vc_rule_table_saying.specs.declared.calls.NotedCall.{NotedCall}

-- what is known of the call
abbrev pub IsNoted : {View : Type 0} → (View → Seen) → NotedCall View → Type 0
IsNoted seen call =
    (FewGrains call.plan.now)
    × AreNotes call.plan.now (seen call.view.now) call.columns.now call.rows.now call.notes.now

-- whether the row is possible in the other columns than the variable's, and the rows that are
abbrev pub is_possible_for : {View : Type 0} → (View → Seen) → NotedCall View → ℕ → List Value → Bool
is_possible_for seen call v row =
    is_possible_in call.plan.now (seen call.view.now) (other_columns v call.columns.now) row

abbrev pub rows_for : {View : Type 0} → (View → Seen) → NotedCall View → ℕ → List (List Value)
rows_for seen call v = filter (is_possible_for seen call v) call.rows.now

-- why those of the rows aren't possible that aren't
abbrev pub reasons_of : {View : Type 0} → (View → Seen) → NotedCall View → List Atom
reasons_of seen call = rows_reasons call.plan.now (seen call.view.now) call.columns.now call.rows.now

-- that the variable has a cell, and what follows newly for it
abbrev pub agreement : {View : Type 0} → (View → Seen) → NotedCall View → ℕ → Atom → Conclusion
agreement seen call v a = cell_agreed call.plan.now (seen call.view.now) call.rows.now call.columns.now v a

abbrev pub narrowed : {View : Type 0} → (View → Seen) → NotedCall View → ℕ → List Conclusion
narrowed seen call v =
    new_conclusions (seen call.view.now)
    (map (grain_out call.plan.now (seen call.view.now) call.rows.now call.columns.now v)
    (missing_grains call.plan.now v (columns_of v call.columns.now) (rows_for seen call v)))

abbrev pub newly : {View : Type 0} → (View → Seen) → NotedCall View → ℕ → List Conclusion
newly seen call v = concluded_newly call.plan.now (seen call.view.now) call.rows.now call.columns.now v
