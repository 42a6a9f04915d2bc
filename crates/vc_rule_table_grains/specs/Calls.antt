-- A table call, as the grains of one of its variables are gone through.
use Rattle.std.specs.Prelude.{ℕ, Bool, not, ◌&&◌, List, map}
use Rattle.std.specs.List.{filter}
use Rattle.vc_value.specs.declared.value.Value.{Value}
use Rattle.vc_plan.specs.declared.atoms.Atom.{Atom}
use Rattle.vc_plan.specs.Seen.{Seen}
use Rattle.vc_plan.specs.TableRows.{columns_of, has_grain, is_possible_in, other_columns}
use Rattle.vc_rule_yield.specs.Yielding.{Conclusion}
use Rattle.vc_rule_table.specs.Cells.{FewGrains, is_missing}
use Rattle.vc_rule_table.specs.Noting.{AreNotes}
use Rattle.vc_rule_table.specs.Reasons.{rows_reasons}
use Rattle.vc_rule_table.specs.TableSaid.{grain_out, new_conclusions}
use Rattle.vc_rule_table_grains.specs.declared.calls.MarkedCall.{MarkedCall}
use Rattle.vc_rule_table_grains.specs.declared.calls.TableCall.{TableCall}
use Rattle.vc_rule_table_grains.specs.Marking.{IsMarked}

-- what is known of the call, and of its marks
abbrev pub IsCall : {View : Type 0} → (View → Seen) → TableCall View → Type 0
IsCall seen call =
    (FewGrains call.plan.now)
    × AreNotes call.plan.now (seen call.view.now) call.columns.now call.rows.now call.notes.now

abbrev pub IsMarkedCall : {View : Type 0} → (View → Seen) → MarkedCall View → Type 0
IsMarkedCall seen marked =
    let call = marked.call.now in
    (IsCall seen call)
    × IsMarked call.plan.now (seen call.view.now) call.columns.now call.var call.domain.now call.rows.now
    marked.marks.now marked.chained

-- whether the row has the grain, and the rows that have it
abbrev pub has : {View : Type 0} → TableCall View → ℕ → List Value → Bool
has call g row = has_grain call.plan.now call.var (columns_of call.var call.columns.now) g row

abbrev pub rows_with : {View : Type 0} → TableCall View → ℕ → List (List Value)
rows_with call g = filter (has call g) call.rows.now

-- whether it is possible in the other columns, which rows are, and why those aren't that aren't
abbrev pub is_possible : {View : Type 0} → (View → Seen) → TableCall View → List Value → Bool
is_possible seen call row =
    is_possible_in call.plan.now (seen call.view.now) (other_columns call.var call.columns.now) row

abbrev pub possible_rows : {View : Type 0} → (View → Seen) → TableCall View → List (List Value)
possible_rows seen call = filter (is_possible seen call) call.rows.now

abbrev pub reasons_of : {View : Type 0} → (View → Seen) → TableCall View → List (List Value) → List Atom
reasons_of seen call rows =
    rows_reasons call.plan.now (seen call.view.now) (other_columns call.var call.columns.now) rows

-- whether no possible row has the grain, and that it is out
abbrev pub misses : {View : Type 0} → (View → Seen) → TableCall View → ℕ → Bool
misses seen call g =
    is_missing call.plan.now call.var (columns_of call.var call.columns.now) (possible_rows seen call) g

abbrev pub loses : {View : Type 0} → (View → Seen) → TableCall View → ℕ → Conclusion
loses seen call g = grain_out call.plan.now (seen call.view.now) call.rows.now call.columns.now call.var g

-- what follows newly of those of the grains that are missing
abbrev pub narrowed : {View : Type 0} → (View → Seen) → TableCall View → List ℕ → List Conclusion
narrowed seen call grains =
    new_conclusions (seen call.view.now) (map (loses seen call) (filter (misses seen call) grains))

-- whether the grain is missing and not out yet
abbrev pub is_new : {View : Type 0} → (View → Seen) → TableCall View → ℕ → Bool
is_new seen call g = not ((seen call.view.now).out call.var g) && misses seen call g
