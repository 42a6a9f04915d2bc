-- What a table call of a constraint gives.
use Rattle.std.specs.Prelude.{ℕ, Bool, false, not, ◌&&◌, ◌==◌, if◌then◌else◌, List, [], ◌∷◌, map, slice_get, Option}
use Rattle.std.specs.Prelude.{None, Some}
use Rattle.std.specs.List.{filter, list_any, list_all}
use Rattle.vc_base.specs.Rounds.{Given, atoms}
use Rattle.vc_value.specs.declared.value.Value.{Value}
use Rattle.vc_plan.specs.declared.atoms.Atom.{Atom}
use Rattle.vc_plan.specs.declared.atoms.Atom.TheVariants.{Out, Is}
use Rattle.vc_plan.specs.declared.plans.Plan.{Plan}
use Rattle.vc_plan.specs.declared.plans.Table.{Table}
use Rattle.vc_plan.specs.declared.rules.Binding.{Binding}
use Rattle.vc_plan.specs.declared.rules.Operand.{Operand}
use Rattle.vc_plan.specs.declared.rules.Operand.TheVariants.{Constant, Variable}
use Rattle.vc_plan.specs.declared.rules.Rule.{Rule}
use Rattle.vc_plan.specs.Answers.{clash_if, gathered}
use Rattle.vc_plan.specs.Domains.{numbers_below, grains_of, count_of, is_restrictable, is_grain_with}
use Rattle.vc_plan.specs.Pieces.{same_value, lies_in, lies_in_some}
use Rattle.vc_plan.specs.Seen.{Seen, is_left}

-- the rows of the table; none where there is no such table
abbrev pub rows_in : Option Table → List (List Value)
rows_in None = []
rows_in (Some table) = table.rows

abbrev pub rows_of : Plan → ℕ → List (List Value)
rows_of plan table = rows_in (slice_get plan.tables table)

-- whether the cell, if there is one, passes the test
abbrev pub cell_passes : (Value → Bool) → Option Value → Bool
cell_passes test None = false
cell_passes test (Some a) = test a

-- whether a grain left of the variable holds the value
abbrev pub has_left : Plan → Seen → ℕ → Value → Bool
has_left plan seen v a =
    list_any (λ g. is_left plan seen v g && is_grain_with plan v (lies_in a) g) (numbers_below (count_of plan v))

-- whether a cell of this value is possible with what the column is given: the literal equals it, or a grain left of the
-- variable holds it
abbrev pub fits : Plan → Seen → Operand → Value → Bool
fits plan seen (Constant b) a = same_value b a
fits plan seen (Variable v) a = has_left plan seen v a

-- whether the row is possible in a column, and in all of these columns
abbrev pub is_possible : Plan → Seen → List Value → Binding → Bool
is_possible plan seen row column = cell_passes (fits plan seen column.operand) (slice_get row column.column)

abbrev pub is_possible_in : Plan → Seen → List Binding → List Value → Bool
is_possible_in plan seen columns row = list_all (is_possible plan seen row) columns

-- whether the variable is given to the column
abbrev pub is_variable : ℕ → Operand → Bool
is_variable v (Constant b) = false
is_variable v (Variable w) = v == w

abbrev pub is_column_of : ℕ → Binding → Bool
is_column_of v column = is_variable v column.operand

-- the columns that the variable is given to, and the others
abbrev pub columns_of : ℕ → List Binding → List Binding
columns_of v columns = filter (is_column_of v) columns

abbrev pub other_columns : ℕ → List Binding → List Binding
other_columns v columns = filter (λ column. not (is_column_of v column)) columns

-- the rows that are possible in all columns but the variable's
abbrev pub rows_for : Plan → Seen → ℕ → List Binding → ℕ → List (List Value)
rows_for plan seen table columns v = filter (is_possible_in plan seen (other_columns v columns)) (rows_of plan table)

-- whether all of the variable's columns have a cell in the grain, and whether all have the cell
abbrev pub has_grain : Plan → ℕ → List Binding → ℕ → List Value → Bool
has_grain plan v own g row =
    list_all (λ column. cell_passes (λ a. is_grain_with plan v (lies_in a) g) (slice_get row column.column)) own

abbrev pub has_cell : List Binding → Value → List Value → Bool
has_cell own a row = list_all (λ column. cell_passes (same_value a) (slice_get row column.column)) own

-- the grains of the variable that no row has
abbrev pub missing_grains : Plan → ℕ → List Binding → List (List Value) → List ℕ
missing_grains plan v own rows =
    filter (λ g. not (list_any (has_grain plan v own g) rows)) (numbers_below (count_of plan v))

-- the cell of the first of these columns
abbrev pub first_cell : List Binding → List Value → Option Value
first_cell [] row = None
first_cell (column ∷ own) row = slice_get row column.column

-- the variable's value, where there is one and it passes the test
abbrev pub value_if : (Value → Bool) → ℕ → Option Value → List Atom
value_if test v None = []
value_if test v (Some a) = if test a then Is v a ∷ [] else []

-- the cell that all of the rows have for the variable, where it is in the variable's list
abbrev pub agreed : Plan → ℕ → List Binding → List (List Value) → List Atom
agreed plan v own [] = []
agreed plan v own (row ∷ rows) =
    value_if (λ a. list_all (has_cell own a) (row ∷ rows) && lies_in_some (grains_of plan v) a) v (first_cell own row)

-- what follows for an inferred variable
abbrev pub for_variable : Plan → Seen → ℕ → List Binding → ℕ → Given Atom
for_variable plan seen table columns v =
    let rows = rows_for plan seen table columns v in
    let own = columns_of v columns in
    atoms (if is_restrictable plan v then map (Out v) (missing_grains plan v own rows) else agreed plan v own rows)

-- the inferred variables that a column is given to
abbrev pub narrowed : Rule → List Binding → List ℕ
narrowed rule columns = filter (λ v. list_any (is_column_of v) columns) rule.inferred

-- Table: the columns are those of one row
abbrev pub by_table : Plan → Seen → Rule → ℕ → List Binding → Given Atom
by_table plan seen rule table columns =
    clash_if (not (list_any (is_possible_in plan seen columns) (rows_of plan table)))
    (gathered (for_variable plan seen table columns) (narrowed rule columns))
