-- What a table call says with what it follows from.
use Rattle.std.specs.Prelude.{ℕ, Bool, not, if◌then◌else◌, List, map, flat_map}
use Rattle.std.specs.List.{filter, list_any}
use Rattle.vc_value.specs.declared.value.Value.{Value}
use Rattle.vc_plan.specs.declared.atoms.Atom.{Atom}
use Rattle.vc_plan.specs.declared.atoms.Atom.TheVariants.{Out}
use Rattle.vc_plan.specs.declared.plans.Plan.{Plan}
use Rattle.vc_plan.specs.declared.rules.Binding.{Binding}
use Rattle.vc_plan.specs.declared.rules.Rule.{Rule}
use Rattle.vc_plan.specs.Domains.{is_restrictable}
use Rattle.vc_plan.specs.Seen.{Seen, says}
use Rattle.vc_plan.specs.TableRows.{rows_of, is_possible_in, is_column_of, columns_of, other_columns, has_grain}
use Rattle.vc_plan.specs.TableRows.{missing_grains, agreed, narrowed}
use Rattle.vc_rule_yield.specs.Yielding.{Conclusion}
use Rattle.vc_rule_premises.specs.Saying.{Said, concluding, clash_when, conclusion_from}
use Rattle.vc_rule_table.specs.Reasons.{rows_reasons}

-- that a grain of the variable is out, as none of the rows that have it is possible in the other columns
abbrev pub grain_out : Plan → Seen → List (List Value) → List Binding → ℕ → ℕ → Conclusion
grain_out plan seen rows columns v g =
    conclusion_from (rows_reasons plan seen (other_columns v columns)
    (filter (has_grain plan v (columns_of v columns) g) rows)) (Out v g)

-- that the variable has the cell that all possible rows have, as no other row is possible in the other columns
abbrev pub cell_agreed : Plan → Seen → List (List Value) → List Binding → ℕ → Atom → Conclusion
cell_agreed plan seen rows columns v a = conclusion_from (rows_reasons plan seen (other_columns v columns) rows) a

-- what follows for an inferred variable
abbrev pub concluded_for : Plan → Seen → List (List Value) → List Binding → ℕ → List Conclusion
concluded_for plan seen rows columns v =
    let possible = filter (is_possible_in plan seen (other_columns v columns)) rows in
    let own = columns_of v columns in
    if is_restrictable plan v then map (grain_out plan seen rows columns v) (missing_grains plan v own possible)
    else map (cell_agreed plan seen rows columns v) (agreed plan v own possible)

-- the conclusions that don't stand yet
abbrev pub new_conclusions : Seen → List Conclusion → List Conclusion
new_conclusions seen conclusions = filter (λ conclusion. not (says seen conclusion.atom)) conclusions

abbrev pub concluded_newly : Plan → Seen → List (List Value) → List Binding → ℕ → List Conclusion
concluded_newly plan seen rows columns v = new_conclusions seen (concluded_for plan seen rows columns v)

-- whether a column is given the variable
abbrev pub has_column : List Binding → ℕ → Bool
has_column columns v = list_any (is_column_of v) columns

-- what the rows of a table say: a clash where none is possible, else what follows for each inferred variable
abbrev pub rows_said : Plan → Seen → Rule → List (List Value) → List Binding → Said
rows_said plan seen rule rows columns =
    clash_when (not (list_any (is_possible_in plan seen columns) rows)) (rows_reasons plan seen columns rows)
    (concluding (flat_map (concluded_newly plan seen rows columns) (narrowed rule columns)))

-- Table: the columns are those of one row
abbrev pub table_said : Plan → Seen → Rule → ℕ → List Binding → Said
table_said plan seen rule table columns = rows_said plan seen rule (rows_of plan table) columns
