-- How many rows of a table have each grain, and which of these counts are kept.
use Rattle.std.specs.Prelude.{◌≡◌, ℕ, Bool, List, [], ◌∷◌, length, map, slice_get, slice_index_or, ◌+◌, Option, None}
use Rattle.std.specs.Prelude.{Some}
use Rattle.std.specs.List.{filter}
use Rattle.vc_value.specs.declared.value.Value.{Value}
use Rattle.vc_plan.specs.declared.conditions.Piece.{Piece}
use Rattle.vc_plan.specs.declared.plans.Plan.{Plan}
use Rattle.vc_plan.specs.declared.plans.Var as variable
use Rattle.vc_plan.specs.declared.rules.Binding.{Binding}
use Rattle.vc_plan.specs.Bounds.{rows_with}
use Rattle.vc_plan.specs.Domains.{count_of, grains_in, numbers_below, passes}
use Rattle.vc_plan.specs.Pieces.{lies_in}
use Rattle.vc_plan.specs.TableRows.{cell_passes, columns_of, rows_of}
use Rattle.vc_net_bounds.specs.declared.keeping.Column.{Column}
use Rattle.vc_net_bounds.specs.Capping.{capped}

-- of a variable that a table call is given, by grain
abbrev pub rows_by_grain : Plan → ℕ → List Binding → ℕ → ℕ → ℕ
rows_by_grain plan table columns v g = capped (rows_with plan table columns v g)

abbrev pub row_counts : Plan → ℕ → List Binding → ℕ → List ℕ
row_counts plan table columns v = map (rows_by_grain plan table columns v) (numbers_below (count_of plan v))

-- of a column against a domain
abbrev pub cell_of : Column → List Value → Option Value
cell_of column row = slice_get row column.column

abbrev pub cells_of : Plan → Column → List (Option Value)
cells_of plan column = map (cell_of column) (rows_of plan column.table)

abbrev pub lies_in_piece : Option Piece → Option Value → Bool
lies_in_piece piece cell = cell_passes (λ a. passes (lies_in a) piece) cell

abbrev pub lies_in_grain : Plan → Column → ℕ → List Value → Bool
lies_in_grain plan column g row =
    lies_in_piece (slice_get (grains_in (slice_get plan.domains column.domain)) g) (cell_of column row)

abbrev pub cells_by_grain : Plan → Column → ℕ → ℕ
cells_by_grain plan column g = capped (length (filter (lies_in_grain plan column g) (rows_of plan column.table)))

abbrev pub column_counts : Plan → Column → List ℕ
column_counts plan column =
    map (cells_by_grain plan column) (numbers_below (length (grains_in (slice_get plan.domains column.domain))))

-- the columns that were asked for, with their counts
pub record Counts : Type 0 where
  pub columns : List Column
  pub counts : List (List ℕ)

abbrev pub IsKept : Plan → Counts → Type 0
IsKept plan kept = kept.counts ≡ map (column_counts plan) kept.columns

-- the numbers of the columns that the variable is given to, and that number, if there is one
abbrev pub own_columns : ℕ → List Binding → List ℕ
own_columns v columns = map (λ column. column.column) (columns_of v columns)

abbrev pub if_met : Option ℕ → List ℕ
if_met None = []
if_met (Some n) = n ∷ []

-- the number of a list that has no other
abbrev pub sole : List ℕ → Option ℕ
sole [] = None
sole (n ∷ []) = Some n
sole (n ∷ m ∷ more) = None

-- the column by whose cells a variable's rows are counted: the one that it is given to, against its own domain
abbrev pub column_by : ℕ → Option variable.Var → Option ℕ → Option Column
column_by table None column = None
column_by table (Some x) None = None
column_by table (Some x) (Some n) = Some (record { table = table; column = n; domain = x.domain })

-- what each grain needs by these counts
abbrev pub with_counts : List ℕ → ℕ → ℕ → ℕ
with_counts counts b g = capped (b + slice_index_or counts g 0)
