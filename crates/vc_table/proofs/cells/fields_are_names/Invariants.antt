use Rattle.std.proofs.Common.{◌≡◌, drop}
use Rattle.csv.specs.Records.{fields_of}
use Rattle.vc_table.specs.Tables.{are_names}
use Rattle.vc_table.proofs.cells.fields_are_names.Given as goal

abbrev pub invariant-loop-index : goal.invariant-loop-index
invariant-loop-index l = are_names (drop l.index l.columns) (drop l.index (fields_of l.row))
    ≡ are_names l.columns (fields_of l.row)
