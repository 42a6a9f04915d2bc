-- Whether a word of a line must be a name, a material or a unit, and isn't one.
use Rattle.std.specs.Prelude.{Bool, false, not, ◌||◌}
use Rattle.vc_value.specs.Names.{is_name}
use Rattle.vc_model_lines.specs.declared.line.Line.{Line}
use Rattle.vc_model_lines.specs.declared.line.Line.TheVariants as lines
use Rattle.vc_model_lines.specs.declared.line.NumLine.{NumLine}
use Rattle.vc_model_lines.specs.declared.line.ObjectLine.{ObjectLine}
use Rattle.vc_model_lines.specs.declared.line.BillLine.{BillLine}
use Rattle.vc_model_lines.specs.declared.line.OperationLine.{OperationLine}
use Rattle.vc_model_lines.specs.WordSpellings.{is_free_name, is_material, is_unit}

abbrev pub is_misspelled_num : NumLine → Bool
is_misspelled_num num = not (is_free_name num.name) || not (is_unit num.unit)

abbrev pub is_misspelled_object : ObjectLine → Bool
is_misspelled_object object = not (is_material object.material) || not (is_name object.class)

abbrev pub is_misspelled_bill : BillLine → Bool
is_misspelled_bill bill = not (is_material bill.material) || not (is_material bill.unit)

abbrev pub is_misspelled_operation : OperationLine → Bool
is_misspelled_operation operation = not (is_name operation.centre) || not (is_material operation.unit)

-- a characteristic's name is no reserved word; all other names may be one
unfoldable pub is_misspelled : Line → Bool
is_misspelled (lines.Head head) = not (is_name head.name)
is_misspelled (lines.Char char) = not (is_free_name char.name)
is_misspelled (lines.Num num) = is_misspelled_num num
is_misspelled (lines.Uses name) = not (is_name name)
is_misspelled (lines.Class name) = not (is_name name)
is_misspelled (lines.Has name) = not (is_name name)
is_misspelled (lines.Net name) = not (is_name name)
is_misspelled (lines.Table table) = not (is_name table.name)
is_misspelled (lines.Column column) = not (is_name column.characteristic)
is_misspelled (lines.Object object) = is_misspelled_object object
is_misspelled (lines.Bill bill) = is_misspelled_bill bill
is_misspelled (lines.Operation operation) = is_misspelled_operation operation
is_misspelled (lines.Block block) = not (is_name block.name)
is_misspelled (lines.Root material) = not (is_material material)
is_misspelled line = false
