-- The rows of a model's tables, as they are kept, with the numbers of tables by their names.
use Rattle.std.specs.Prelude.{◌≡◌, ℕ, List, flat_map, map, position, slice_get}
use Rattle.std.specs.Str.{bytes_eq}
use Rattle.vc_value.specs.declared.value.Value.{Value}
use Rattle.vc_model_parts.specs.declared.parts.Model.{Model}
use Rattle.vc_table.specs.declared.table.Row.{Row}
use Rattle.vc_types_names.specs.FirstNames.{value_of}
use Rattle.vc_types_names.specs.declared.first_named.FirstNamed.{FirstNamed}
use Rattle.vc_compile_plan.specs.Tables.{cell_in}

-- the numbers are those of the model's tables
abbrev pub Numbers : FirstNamed ℕ → Model → Type 0
Numbers numbers model = (name : List ℕ)
    → value_of numbers name ≡ position (λ table. bytes_eq table.name name) model.tables

-- the cells of a column of rows
abbrev pub cells_in : List Row → ℕ → List Value
cells_in rows k = flat_map (λ row. cell_in (slice_get row k)) (map (λ row. row.cells) rows)
