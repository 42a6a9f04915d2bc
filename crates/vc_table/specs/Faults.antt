-- The numbers of the faults of tables.
use Rattle.std.specs.Prelude.{ℕ, Option, Some, None}
use Rattle.vc_table.specs.declared.table.TableFault.{TableFault}
use Rattle.vc_table.specs.declared.table.TableFault.TheVariants.{Columns, Cell, DoubleKey, TooManyRows, OutOfMemory}

-- counted from 1; want of memory has none
abbrev pub number_of : TableFault → Option ℕ
number_of (Columns row) = Some 1
number_of (Cell row) = Some 2
number_of (DoubleKey row) = Some 3
number_of TooManyRows = Some 4
number_of OutOfMemory = None

-- the row that has the fault, 0 where no row has it
abbrev pub row_of : TableFault → ℕ
row_of (Columns row) = row
row_of (Cell row) = row
row_of (DoubleKey row) = row
row_of TooManyRows = 0
row_of OutOfMemory = 0
