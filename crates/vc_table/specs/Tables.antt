-- Variant tables, and the records that are rows of one.
use Rattle.std.specs.Prelude.{ℕ, ◌+◌, Bool, false, ◌&&◌, ◌==◌, nat_lt, List, [], ◌∷◌, ◌++◌, length, map, position}
use Rattle.std.specs.Prelude.{Option, Some, None, is_some, ok_or, option_map, Result, Ok, Err, if◌then◌else◌}
use Rattle.std.specs.List.{list_any}
use Rattle.std.specs.Cmp.Lexicographic.{pointwise}
use Rattle.std.specs.Option.{option_and_then}
use Rattle.std.specs.Ordering.{int_eq}
use Rattle.vc_value.specs.Words.{same_bytes, same_ignoring_case}
use Rattle.vc_value.specs.Grains.{holds, has_decimals}
use Rattle.vc_value.specs.Decimals.{read_number}
use Rattle.vc_value.specs.declared.decimal.Dec.{Dec}
use Rattle.vc_value.specs.declared.decimal.NumFault.{NumFault}
use Rattle.vc_value.specs.declared.grains.Grain.{Grain}
use Rattle.vc_value.specs.declared.value.Value.{Value}
use Rattle.vc_value.specs.declared.value.Value.TheVariants.{Text, Num}
use Rattle.vc_value.specs.declared.table_header.Entry.{Entry}
use Rattle.vc_value.specs.declared.table_header.Column.{Column}
use Rattle.vc_value.specs.declared.table_header.Domain.{Domain}
use Rattle.vc_value.specs.declared.table_header.Domain.TheVariants.{Texts, Nums}
use Rattle.vc_table.specs.declared.table.Row.{Row}
use Rattle.vc_table.specs.declared.table.TableFault.{TableFault}
use Rattle.vc_table.specs.declared.table.TableFault.TheVariants.{Columns, Cell, DoubleKey, TooManyRows}
use Rattle.vc_table.specs.Records.{Fields}

-- the number of the first entry with this text
abbrev pub text_number : List Entry → List ℕ → Option ℕ
text_number [] text = None
text_number (entry ∷ entries) text = if same_bytes entry.text text then Some entry.number else text_number entries text

-- texts with their numbers as entries
abbrev pub entries_of : {K : Type 0} → (K → List ℕ) → List (K × ℕ) → List Entry
entries_of text pairs = map (λ pair. record { text = text pair.0; number = pair.1 }) pairs

-- a number that was read, if a grain holds it and it has no more decimals than these
abbrev pub number_in : ℕ → List Grain → Result Dec NumFault → Option Value
number_in decimals grains (Ok n) = if has_decimals decimals n
    && is_some (position (holds n) grains) then Some (Num n) else None
number_in decimals grains (Err fault) = None

abbrev pub domain_value : Domain → List Entry → List ℕ → Option Value
domain_value (Texts numbers) entries field = option_map Text (text_number entries field)
domain_value (Nums decimals grains) entries field = number_in decimals grains (read_number field)

-- the value of the column's list that a field writes, if it writes one
abbrev pub value_of : Column → List ℕ → Option Value
value_of column field = domain_value column.domain column.texts field

-- the values that fields write, each in its column, if all of them do
abbrev pub values_of : List Column → Fields → Option (List Value)
values_of [] fields = Some []
values_of (column ∷ columns) [] = None
values_of (column ∷ columns) (field ∷ fields) =
    option_and_then (λ value. option_map (λ values. value ∷ values) (values_of columns fields)) (value_of column field)

-- the fields are the names of the columns, in any case
abbrev pub are_names : List Column → Fields → Bool
are_names columns fields = pointwise same_ignoring_case (map (λ column. column.name) columns) fields

abbrev pub same_value : Value → Value → Bool
same_value (Text a) (Text b) = a == b
same_value (Text a) (Num b) = false
same_value (Num a) (Text b) = false
same_value (Num a) (Num b) = int_eq a.millionths b.millionths

-- the cells of the key columns
abbrev pub key_of : List Column → List Value → List Value
key_of [] values = []
key_of (column ∷ columns) [] = []
key_of (column ∷ columns) (value ∷ values) = if column.key then value ∷ key_of columns values else key_of columns values

abbrev pub has_keys : List Column → Bool
has_keys columns = list_any (λ column. column.key) columns

-- one of the keys is the same
abbrev pub is_among : List Value → List (List Value) → Bool
is_among key keys = list_any (pointwise same_value key) keys

-- the table has key columns, and an earlier row has the same key cells
abbrev pub repeats : List Column → List Row → List Value → Bool
repeats columns earlier cells = has_keys columns
    && is_among (key_of columns cells) (map (λ row. key_of columns row.cells) earlier)

-- the cells of the record of this number, or its fault
abbrev pub cells_of : List Column → ℕ → Fields → Result (List Value) TableFault
cells_of columns number fields = if length fields == length columns
    then ok_or (values_of columns fields) (Cell number) else Err (Columns number)

-- what follows from the cells, or the fault
abbrev pub if_cells : Result (List Value) TableFault → (List Value → Result (List Row) TableFault)
    → Result (List Row) TableFault
if_cells (Ok cells) next = next cells
if_cells (Err fault) next = Err fault

-- the earlier rows with those of the records behind them, which begin with the number, or the first fault
abbrev pub rows_from : List Column → ℕ → List Row → List Fields → Result (List Row) TableFault
rows_from columns number earlier [] = Ok earlier
rows_from columns number earlier (fields ∷ records) = if_cells (cells_of columns number fields) (λ cells.
    if repeats columns earlier cells
    then Err (DoubleKey number)
    else rows_from columns (number + 1) (earlier ++ (record { cells = cells }) ∷ []) records)

-- the rows of a table's records, of which the first has the columns' names, or the fault
abbrev pub rows_below : List Column → List Fields → Result (List Row) TableFault
rows_below columns [] = Err (Columns 1)
rows_below columns (names ∷ records) = if are_names columns names
    then rows_from columns 2 [] records else Err (Columns 1)

-- the same, with at most 10,000 records after the first
abbrev pub rows_of : List Column → List Fields → Result (List Row) TableFault
rows_of columns records = if nat_lt 10001 (length records) then Err TooManyRows else rows_below columns records
