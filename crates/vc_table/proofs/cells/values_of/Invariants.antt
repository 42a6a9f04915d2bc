use Rattle.std.proofs.Common.{◌≡◌, ◌++◌, drop}
use Rattle.std.specs.Option.{option_map}
use Rattle.csv.specs.Records.{fields_of}
use Rattle.vc_table.specs.Tables.{values_of}
use Rattle.vc_table.proofs.cells.values_of.Given as goal

abbrev pub invariant-loop-index : goal.invariant-loop-index
invariant-loop-index l =
    option_map (λ more. l.cells.items ++ more) (values_of (drop l.index l.columns) (drop l.index (fields_of l.row)))
    ≡ values_of l.columns (fields_of l.row)
