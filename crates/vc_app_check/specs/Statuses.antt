-- The exit status where a model has no plan, or no keeper was begun.
use Rattle.std.specs.Prelude.{ℕ}
use Rattle.vc_outside.specs.declared.file.FileFault.{FileFault}
use Rattle.vc_outside.specs.declared.file.FileFault.TheVariants as files
use Rattle.vc_outside.specs.declared.keeper.KeepFault.{KeepFault}
use Rattle.vc_outside.specs.declared.keeper.KeepFault.TheVariants as keepers
use Rattle.vc_table.specs.declared.table.TableFault.{TableFault}
use Rattle.vc_table.specs.declared.table.TableFault.TheVariants as tables
use Rattle.vc_compile_plan.specs.declared.fault.CompileFault.{CompileFault}
use Rattle.vc_compile_plan.specs.declared.fault.CompileFault.TheVariants as compile
use Rattle.vc_app_models.specs.declared.stop.ModelStop.{ModelStop}
use Rattle.vc_app_models.specs.declared.stop.ModelStop.TheVariants as stops

abbrev pub file_status : FileFault → ℕ
file_status files.Missing = 3
file_status files.Failed = 4
file_status files.TooLarge = 11
file_status files.OutOfMemory = 8

abbrev pub table_status : TableFault → ℕ
table_status (tables.Columns row) = 2
table_status (tables.Cell row) = 2
table_status (tables.DoubleKey row) = 2
table_status tables.TooManyRows = 2
table_status tables.OutOfMemory = 8

abbrev pub compile_status : CompileFault → ℕ
compile_status compile.TooDeep = 2
compile_status compile.TooManySlots = 2
compile_status compile.TooManyRules = 2
compile_status compile.TooManyAtoms = 2
compile_status compile.TooManyCells = 2
compile_status (compile.Typing kind line) = 2
compile_status compile.OutOfMemory = 8

abbrev pub stop_status : ModelStop → ℕ
stop_status (stops.Unread fault) = file_status fault
stop_status (stops.TextRefused kind line) = 2
stop_status (stops.TableUnread file fault) = file_status fault
stop_status (stops.TableRefused table fault) = table_status fault
stop_status (stops.Uncompiled fault) = compile_status fault
stop_status stops.OutOfMemory = 8

-- where a keeper couldn't be begun
abbrev pub keeper_status : KeepFault → ℕ
keeper_status keepers.Failed = 7
keeper_status keepers.OutOfMemory = 8
