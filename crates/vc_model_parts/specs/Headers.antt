-- What the file of a table must have: its columns in order, each with the values of its characteristic.
use Rattle.std.specs.Prelude.{ℕ, Bool, ◌&&◌, List, [], ◌∷◌, ◌++◌, map, slice_get, Option, option_map, if◌then◌else◌}
use Rattle.std.specs.List.{cons_option, list_all}
use Rattle.vc_value.specs.Grains.{is_below, is_ordered}
use Rattle.vc_value.specs.declared.grains.Grain.{Grain}
use Rattle.vc_value.specs.declared.table_header.Column.{Column}
use Rattle.vc_value.specs.declared.table_header.Domain.{Domain}
use Rattle.vc_value.specs.declared.table_header.Domain.TheVariants as domains
use Rattle.vc_value.specs.declared.table_header.Entry.{Entry}
use Rattle.vc_value.specs.declared.table_header.TableHeader.{TableHeader}
use Rattle.vc_model_parts.specs.declared.parts.Characteristic.{Characteristic}
use Rattle.vc_model_parts.specs.declared.parts.NumberValue.{NumberValue}
use Rattle.vc_model_parts.specs.declared.parts.Table.{Table}
use Rattle.vc_model_parts.specs.declared.parts.TableColumn.{TableColumn}
use Rattle.vc_model_parts.specs.declared.parts.TextValue.{TextValue}
use Rattle.vc_model_parts.specs.declared.parts.Values.{Values}
use Rattle.vc_model_parts.specs.declared.parts.Values.TheVariants.{Texts, Numbers}

-- the text of a value, with its number
abbrev pub entry_of : List (List ℕ) → TextValue → Option Entry
entry_of texts value = option_map (λ text. record { text = text; number = value.text }) (slice_get texts value.text)

abbrev pub entries_of : List (List ℕ) → List TextValue → List Entry
entries_of texts [] = []
entries_of texts (value ∷ values) = cons_option (entry_of texts value) (entries_of texts values)

-- the interval of a value, and the same where it lies above those before it: others aren't values of a column
abbrev pub grain_of : NumberValue → Grain
grain_of value = record { low = value.low; high = value.high }

abbrev pub grain_above : List Grain → NumberValue → List Grain
grain_above before value =
    if is_ordered (grain_of value) && list_all (is_below value.low) before then grain_of value ∷ [] else []

abbrev pub grains_of : List Grain → List NumberValue → List Grain
grains_of before [] = before
grains_of before (value ∷ values) = grains_of (before ++ grain_above before value) values

-- the values of a characteristic, and their texts where they are texts
abbrev pub domain_of : Values → Domain
domain_of (Texts length multiple values) = domains.Texts (map (λ value. value.text) values)
domain_of (Numbers decimals unit values) = domains.Nums decimals (grains_of [] values)

abbrev pub texts_of : List (List ℕ) → Values → List Entry
texts_of texts (Texts length multiple values) = entries_of texts values
texts_of texts (Numbers decimals unit values) = []

-- a column
abbrev pub column_from : List (List ℕ) → Bool → Characteristic → Column
column_from texts key characteristic = record {
  name = characteristic.name;
  key = key;
  texts = texts_of texts characteristic.values;
  domain = domain_of characteristic.values;
}

abbrev pub column_of : List (List ℕ) → List Characteristic → TableColumn → Option Column
column_of texts characteristics column =
    option_map (column_from texts column.key) (slice_get characteristics column.characteristic)

abbrev pub columns_of : List (List ℕ) → List Characteristic → List TableColumn → List Column
columns_of texts characteristics [] = []
columns_of texts characteristics (column ∷ columns) =
    cons_option (column_of texts characteristics column) (columns_of texts characteristics columns)

-- a table's name and columns
abbrev pub header_of : List (List ℕ) → List Characteristic → Table → TableHeader
header_of texts characteristics table =
    record { name = table.name; columns = columns_of texts characteristics table.columns }
