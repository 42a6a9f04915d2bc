-- What is written of a model that is checked: the counts of its plan, or why it has none; and why no keeper was begun.
use Rattle.std.specs.Prelude.{ℕ, List, ◌++◌, length, decimal, codes, Option, Some, None}
use Rattle.vc_outside.specs.declared.file.FileFault.{FileFault}
use Rattle.vc_outside.specs.declared.file.FileFault.TheVariants as files
use Rattle.vc_outside.specs.declared.keeper.KeepFault.{KeepFault}
use Rattle.vc_outside.specs.declared.keeper.KeepFault.TheVariants as keepers
use Rattle.vc_model_faults.specs.Faults as text_faults
use Rattle.vc_model_faults.specs.declared.fault.ModelFaultKind.{ModelFaultKind}
use Rattle.vc_table.specs.Faults as table_faults
use Rattle.vc_table.specs.declared.table.TableFault.{TableFault}
use Rattle.vc_types.specs.Kinds as type_faults
use Rattle.vc_plan.specs.declared.plans.Plan.{Plan}
use Rattle.vc_plan.specs.Bounds.{cell_bound}
use Rattle.vc_plan.specs.Domains.{atom_count}
use Rattle.vc_compile_plan.specs.FaultNumbers as sizes
use Rattle.vc_compile_plan.specs.declared.fault.CompileFault.{CompileFault}
use Rattle.vc_compile_plan.specs.declared.fault.CompileFault.TheVariants as compile
use Rattle.vc_app_models.specs.declared.stop.ModelStop.{ModelStop}
use Rattle.vc_app_models.specs.declared.stop.ModelStop.TheVariants as stops
use Rattle.vc_app_check.specs.declared.counts.Counts.{Counts}

-- the counts of a plan
abbrev pub counts_of : Plan → Counts
counts_of plan = record {
  slots = length plan.slots;
  variables = length plan.vars;
  rules = length plan.rules;
  atoms = atom_count plan;
  cells = cell_bound plan;
}

abbrev pub counts_line : Counts → List ℕ
counts_line counts =
    codes "ok: " ++ (decimal counts.slots
    ++ (codes " slots, " ++ (decimal counts.variables
    ++ (codes " variables, " ++ (decimal counts.rules
    ++ (codes " rules, " ++ (decimal counts.atoms
    ++ (codes " atoms, " ++ (decimal counts.cells ++ codes " cells\n")))))))))

-- memory was wanting
abbrev pub memory_line : List ℕ
memory_line = codes "no memory\n"

-- why a file was not read
abbrev pub file_line : List ℕ → FileFault → List ℕ
file_line name files.Missing = codes "no such file: " ++ (name ++ codes "\n")
file_line name files.Failed = codes "read fault: " ++ (name ++ codes "\n")
file_line name files.TooLarge = codes "too large: " ++ (name ++ codes "\n")
file_line name files.OutOfMemory = memory_line

-- a text's first fault, by its number, with its line
abbrev pub text_line : ModelFaultKind → ℕ → List ℕ
text_line kind line =
    codes "model refused: text "
    ++ (decimal (text_faults.number_of kind) ++ (codes " line " ++ (decimal line ++ codes "\n")))

-- a table's, with its row
abbrev pub row_line : List ℕ → Option ℕ → ℕ → List ℕ
row_line table None row = memory_line
row_line table (Some number) row =
    codes "model refused: table "
    ++ (table ++ (codes " " ++ (decimal number ++ (codes " row " ++ (decimal row ++ codes "\n")))))

abbrev pub table_line : List ℕ → TableFault → List ℕ
table_line table fault = row_line table (table_faults.number_of fault) (table_faults.row_of fault)

-- a size that is too large, by its number; a fault of the typing, by its number, with its line
abbrev pub size_line : Option ℕ → List ℕ
size_line None = memory_line
size_line (Some number) = codes "model refused: size " ++ (decimal number ++ codes "\n")

abbrev pub compile_line : CompileFault → List ℕ
compile_line compile.TooDeep = size_line (sizes.number_of compile.TooDeep)
compile_line compile.TooManySlots = size_line (sizes.number_of compile.TooManySlots)
compile_line compile.TooManyRules = size_line (sizes.number_of compile.TooManyRules)
compile_line compile.TooManyAtoms = size_line (sizes.number_of compile.TooManyAtoms)
compile_line compile.TooManyCells = size_line (sizes.number_of compile.TooManyCells)
compile_line (compile.Typing kind line) =
    codes "model refused: type "
    ++ (decimal (type_faults.number_of kind) ++ (codes " line " ++ (decimal line ++ codes "\n")))
compile_line compile.OutOfMemory = memory_line

-- why the model of this name has no plan
abbrev pub stop_line : List ℕ → ModelStop → List ℕ
stop_line name (stops.Unread fault) = file_line name fault
stop_line name (stops.TextRefused kind line) = text_line kind line
stop_line name (stops.TableUnread file fault) = file_line file fault
stop_line name (stops.TableRefused table fault) = table_line table fault
stop_line name (stops.Uncompiled fault) = compile_line fault
stop_line name stops.OutOfMemory = memory_line

-- why a keeper couldn't be begun
abbrev pub keeper_line : KeepFault → List ℕ
keeper_line keepers.Failed = codes "keeper fault\n"
keeper_line keepers.OutOfMemory = memory_line
