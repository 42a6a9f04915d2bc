-- What the rows of a model's tables keep, where a table's text is read with the model's header.
use Rattle.std.specs.Prelude.{◌≡◌, ℕ, Bool, true, false, not, ◌&&◌, ◌||◌, nat_le, List, [], ◌∷◌, length, map, slice_get}
use Rattle.std.specs.Prelude.{Option, None, Some, Ok}
use Rattle.std.specs.List.{list_all}
use Rattle.std.specs.Cmp.Lexicographic.{pointwise}
use Rattle.vc_value.specs.declared.table_header.Column.{Column}
use Rattle.vc_value.specs.declared.table_header.Domain.{Domain}
use Rattle.vc_value.specs.declared.value.Value.{Value}
use Rattle.vc_table.specs.declared.table.Row.{Row}
use Rattle.vc_table.specs.Records.{Fields}
use Rattle.vc_table.specs.Tables.{has_keys, key_of, rows_of, same_value}
use Rattle.vc_model.specs.Spelled.{Spells}
use Rattle.vc_model_parts.specs.Headers.{header_of}
use Rattle.vc_model_parts.specs.declared.parts.Characteristic.{Characteristic}
use Rattle.vc_model_parts.specs.declared.parts.Table.{Table}
use Rattle.vc_model_parts.specs.declared.parts.TableColumn.{TableColumn}
use Rattle.vc_model_drafts.specs.Seen.{SeenModel}
use Rattle.vc_plan.specs.Lists.{is_listed}
use Rattle.vc_plan.specs.LookUps.{keys_apart}
use Rattle.vc_plan.specs.declared.plans.Table as plans
use Rattle.vc_plan.specs.Orders.{are_apart}
use Rattle.vc_model_laws.specs.Headers.{whole_domain}

-- the list of a characteristic, if it is there
abbrev pub list_at : Option Characteristic → Option Domain
list_at None = None
list_at (Some characteristic) = Some (whole_domain characteristic.values)

-- whether there is a cell for each column, each a value of its characteristic's list
abbrev pub are_cells : SeenModel → List TableColumn → List Value → Bool
are_cells model [] [] = true
are_cells model [] (value ∷ cells) = false
are_cells model (column ∷ columns) [] = false
are_cells model (column ∷ columns) (value ∷ cells) =
    is_listed (list_at (slice_get model.characteristics column.characteristic)) value && are_cells model columns cells

-- whether a row has the key cells of one before it
abbrev pub has_key_of : List Column → Row → Row → Bool
has_key_of columns earlier row = pointwise same_value (key_of columns row.cells) (key_of columns earlier.cells)

-- a table with its rows, as a plan has it
abbrev pub planned : Table → List Row → plans.Table
planned table rows = record {
  name = table.name;
  columns = map (λ column. record { characteristic = column.characteristic; key = column.key }) table.columns;
  rows = map (λ row. row.cells) rows;
}

-- the rows of a table, read with the columns of its header
pub record KeepsRows (model : SeenModel) (table : Table) (columns : List Column) (rows : List Row) : Type 0 where
  pub cells : list_all (λ row. are_cells model table.columns row.cells) rows ≡ true
  pub few : nat_le (length rows) 10_000 ≡ true
  pub keys : (not (has_keys columns) || are_apart (has_key_of columns) rows) ≡ true
  pub planned_keys : keys_apart (planned table rows) ≡ true

-- whatever is read as a table of a model that some text spells
abbrev pub ReadRowsAreKept : Type 0
ReadRowsAreKept = (text : List ℕ) (model : SeenModel) (t : ℕ) (table : Table) (records : List Fields) (rows : List Row)
    → Spells text model → slice_get model.tables t ≡ Some table
    → rows_of (header_of model.texts model.characteristics table).columns records ≡ Ok rows
    → KeepsRows model table (header_of model.texts model.characteristics table).columns rows
