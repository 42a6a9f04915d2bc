-- Characteristics, objects and tables as the plan keeps them.
use Rattle.std.specs.Prelude.{ℕ, suc, ◌==◌, List, [], ◌∷◌, map, flat_map, slice_get, Option, None, Some}
use Rattle.std.specs.List.{position_or_len}
use Rattle.std.specs.Str.{bytes_eq}
use Rattle.vc_value.specs.declared.value.Value.{Value}
use Rattle.vc_model_parts.specs.Headers.{domain_of}
use Rattle.vc_model_parts.specs.declared.parts.Characteristic as listed
use Rattle.vc_model_parts.specs.declared.parts.Model.{Model}
use Rattle.vc_model_parts.specs.declared.parts.Object as configurable
use Rattle.vc_model_parts.specs.declared.parts.Table as declared
use Rattle.vc_model_parts.specs.declared.parts.TableColumn as column
use Rattle.vc_model_parts.specs.declared.parts.Values.{Values}
use Rattle.vc_model_parts.specs.declared.parts.Values.TheVariants as values
use Rattle.vc_plan.specs.declared.plans.Characteristic.{Characteristic}
use Rattle.vc_plan.specs.declared.plans.Object.{Object}
use Rattle.vc_plan.specs.declared.plans.Table.{Table}
use Rattle.vc_plan.specs.declared.plans.TableColumn.{TableColumn}
use Rattle.vc_table.specs.declared.table.VariantTable.{VariantTable}
use Rattle.vc_types.specs.Looking.{characteristic_named}
use Rattle.vc_compile_plan.specs.Sites.{number_or_zero}
use Rattle.vc_compile_plan.specs.Variables.{members_of}

-- a characteristic with its list, uncut
abbrev pub unit_of : Values → Option (List ℕ)
unit_of (values.Texts length multiple entries) = None
unit_of (values.Numbers decimals unit entries) = unit

abbrev pub characteristic_from : listed.Characteristic → Characteristic
characteristic_from c =
    record { name = c.name; unit = unit_of c.values; required = c.required; list = domain_of c.values }

abbrev pub characteristics_of : Model → List Characteristic
characteristics_of model = map characteristic_from model.characteristics

-- objects, by their numbers in the model, with the characteristics of their classes
abbrev pub object_from : Model → ℕ → configurable.Object → Object
object_from model o object = record { material = object.material; characteristics = members_of model o }

abbrev pub objects_from : Model → ℕ → List configurable.Object → List Object
objects_from model o [] = []
objects_from model o (object ∷ objects) = object_from model o object ∷ objects_from model (suc o) objects

abbrev pub objects_of : Model → List Object
objects_of model = objects_from model 0 model.objects

-- tables with their rows
abbrev pub column_from : column.TableColumn → TableColumn
column_from c = record { characteristic = c.characteristic; key = c.key }

abbrev pub rows_in : Option VariantTable → List (List Value)
rows_in None = []
rows_in (Some table) = map (λ row. row.cells) table.rows

abbrev pub table_from : declared.Table → Option VariantTable → Table
table_from table rows = record { name = table.name; columns = map column_from table.columns; rows = rows_in rows }

abbrev pub tables_from : List VariantTable → ℕ → List declared.Table → List Table
tables_from tables t [] = []
tables_from tables t (table ∷ more) = table_from table (slice_get tables t) ∷ tables_from tables (suc t) more

abbrev pub tables_of : Model → List VariantTable → List Table
tables_of model tables = tables_from tables 0 model.tables

-- the number of a table, and the place of a column in it, by their names
abbrev pub table_number : Model → List ℕ → ℕ
table_number model name = position_or_len (λ table. bytes_eq table.name name) model.tables

abbrev pub column_place : Option declared.Table → ℕ → ℕ
column_place None c = 0
column_place (Some table) c = position_or_len (λ column. column.characteristic == c) table.columns

abbrev pub column_number : Model → List ℕ → List ℕ → ℕ
column_number model table column =
    column_place (slice_get model.tables (table_number model table))
    (number_or_zero (characteristic_named model column))

-- the cells of a column
abbrev pub cell_in : Option Value → List Value
cell_in None = []
cell_in (Some a) = a ∷ []

abbrev pub column_cells : List VariantTable → ℕ → ℕ → List Value
column_cells tables t k = flat_map (λ row. cell_in (slice_get row k)) (rows_in (slice_get tables t))
