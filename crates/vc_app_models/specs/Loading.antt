-- What is read of a model: its text, the files of its tables in the order of the model, each checked before the next is
-- looked for, and then the plan.
use Rattle.std.specs.Prelude.{◌≡◌, ◌≢◌, ℕ, ◌≤◌, List, [], ◌∷◌, length, slice_get, option_map, Option, Some, Result, Ok}
use Rattle.std.specs.Prelude.{Err}
use Rattle.vc_outside.specs.Faults.{Raised}
use Rattle.vc_outside.specs.Shelves.{Files, Holds, Lacks, Exceeds}
use Rattle.vc_outside.specs.declared.file.FileFault.{FileFault}
use Rattle.vc_outside.specs.declared.file.FileFault.TheVariants as faults
use Rattle.vc_outside.specs.declared.file.TheConstants.{FILE_LIMIT}
use Rattle.vc_model.specs.Spelled.{Spells, IsFault}
use Rattle.vc_model_drafts.specs.Seen.{seen_model}
use Rattle.vc_model_faults.specs.declared.fault.ModelFaultKind.{ModelFaultKind}
use Rattle.vc_model_parts.specs.Headers.{columns_of}
use Rattle.vc_model_parts.specs.declared.parts.Model.{Model}
use Rattle.vc_model_parts.specs.declared.parts.Table.{Table}
use Rattle.vc_table.specs.Records.{records_of}
use Rattle.vc_table.specs.Tables.{rows_of}
use Rattle.vc_table.specs.declared.table.Row.{Row}
use Rattle.vc_table.specs.declared.table.TableFault.{TableFault}
use Rattle.vc_table.specs.declared.table.TableFault.TheVariants as table_faults
use Rattle.vc_table.specs.declared.table.VariantTable.{VariantTable}
use Rattle.vc_plan.specs.declared.plans.Plan.{Plan}
use Rattle.vc_compile_plan.specs.PlanOf.{IsPlanOf}
use Rattle.vc_compile_plan.specs.declared.fault.CompileFault.{CompileFault}
use Rattle.vc_compile.specs.Compiled.{IsRefusal, IsSound}
use Rattle.vc_app_models.specs.declared.stop.ModelStop.{ModelStop}
use Rattle.vc_app_models.specs.declared.stop.ModelStop.TheVariants as stops

-- the file of this name, where files are told, holds the text of this model; where its trees stand in memory doesn't
-- matter, as models of which the same is seen have one fault and one plan
pub record IsModelIn (files : Option Files) (name : List ℕ) (model : Model) : Type 0 where
  pub text : List ℕ
  pub held : Holds files name text
  pub small : length text ≤ FILE_LIMIT
  pub spelled : Spells text (seen_model model)

-- the same holds a text that spells no model, for its first fault
pub record IsRefusedIn (files : Option Files) (name : List ℕ) (kind : ModelFaultKind) (line : ℕ) : Type 0 where
  pub text : List ℕ
  pub held : Holds files name text
  pub small : length text ≤ FILE_LIMIT
  pub fault : IsFault text kind line

-- the rows of a table that a text holds, or why it holds none
abbrev pub rows_in : Model → Table → List ℕ → Result (List Row) TableFault
rows_in model declared text = rows_of (columns_of model.texts model.characteristics declared.columns) (records_of text)

-- the same of the table of this number, where there is one
abbrev pub rows_at : Model → ℕ → List ℕ → Option (Result (List Row) TableFault)
rows_at model number text = option_map (λ declared. rows_in model declared text) (slice_get model.tables number)

-- the file of a table holds its rows
pub record IsTableIn (files : Option Files) (model : Model) (declared : Table) (table : VariantTable) : Type 0 where
  pub text : List ℕ
  pub held : Holds files declared.file text
  pub small : length text ≤ FILE_LIMIT
  pub read : rows_in model declared text ≡ Ok table.rows

-- the file of a table holds no rows of it, for this fault
pub record IsNoTableIn (files : Option Files) (model : Model) (declared : Table) (fault : TableFault) : Type 0 where
  pub text : List ℕ
  pub held : Holds files declared.file text
  pub small : length text ≤ FILE_LIMIT
  pub read : rows_in model declared text ≡ Err fault

-- these tables are those of the first files, one a table
abbrev pub AreTablesIn : Option Files → Model → List Table → List VariantTable → Type 0
AreTablesIn files model declared [] = Unit {0}
AreTablesIn files model [] (table ∷ tables) = ⊥
AreTablesIn files model (first ∷ declared) (table ∷ tables) = IsTableIn files model first table
    × AreTablesIn files model declared tables

-- why a file wasn't read: it isn't there, the shelf's count of faults rose, it is too large, or memory was wanting
abbrev pub IsUnread : Option Files → ℕ → ℕ → List ℕ → FileFault → Type 0
IsUnread files before after name faults.Missing = Lacks files name
IsUnread files before after name faults.Failed = Raised before after
IsUnread files before after name faults.TooLarge = Exceeds FILE_LIMIT files name
IsUnread files before after name faults.OutOfMemory = Unit {0}

-- why a text is no model: its first fault; want of memory has no cause, and is told as that alone
abbrev pub IsTextStop : List ℕ → ModelStop → Type 0
IsTextStop text (stops.Unread fault) = ⊥
IsTextStop text (stops.TextRefused kind line) = IsFault text kind line
IsTextStop text (stops.TableUnread file fault) = ⊥
IsTextStop text (stops.TableRefused table fault) = ⊥
IsTextStop text (stops.Uncompiled fault) = ⊥
IsTextStop text stops.OutOfMemory = Unit {0}

-- what is told of the table of this name that has the fault
abbrev pub stop_at : List ℕ → TableFault → ModelStop
stop_at name (table_faults.Columns row) = stops.TableRefused name (table_faults.Columns row)
stop_at name (table_faults.Cell row) = stops.TableRefused name (table_faults.Cell row)
stop_at name (table_faults.DoubleKey row) = stops.TableRefused name (table_faults.DoubleKey row)
stop_at name table_faults.TooManyRows = stops.TableRefused name table_faults.TooManyRows
stop_at name table_faults.OutOfMemory = stops.OutOfMemory

-- this is the table of this number
abbrev pub IsTableAt : Option Files → Model → ℕ → VariantTable → Type 0
IsTableAt files model number table = (declared : Table) × (slice_get model.tables number ≡ Some declared)
    × IsTableIn files model declared table

-- why the table of this number isn't there: its file wasn't read, or holds no rows of it
abbrev pub IsTableStop : Option Files → ℕ → ℕ → Model → ℕ → ModelStop → Type 0
IsTableStop files before after model number (stops.Unread fault) = ⊥
IsTableStop files before after model number (stops.TextRefused kind line) = ⊥
IsTableStop files before after model number (stops.TableUnread file fault) =
    (declared : Table) × (slice_get model.tables number ≡ Some declared) × (file ≡ declared.file)
    × IsUnread files before after declared.file fault
IsTableStop files before after model number (stops.TableRefused table fault) =
    (declared : Table) × (slice_get model.tables number ≡ Some declared) × (table ≡ declared.name)
    × (fault ≢ table_faults.OutOfMemory) × IsNoTableIn files model declared fault
IsTableStop files before after model number (stops.Uncompiled fault) = ⊥
IsTableStop files before after model number stops.OutOfMemory = Unit {0}

-- this is one of the model's tables, and those before it are read
pub record IsNextTable (files : Option Files) (model : Model) (declared : Table) : Type 0 where
  pub tables : List VariantTable
  pub before : AreTablesIn files model model.tables tables
  pub declared_is : slice_get model.tables (length tables) ≡ Some declared

-- why the tables of a model aren't all there: those before one are read, and its file wasn't, or holds no rows of it
abbrev pub IsTablesStop : Option Files → ℕ → ℕ → Model → ModelStop → Type 0
IsTablesStop files before after model (stops.Unread fault) = ⊥
IsTablesStop files before after model (stops.TextRefused kind line) = ⊥
IsTablesStop files before after model (stops.TableUnread file fault) =
    (declared : Table) × IsNextTable files model declared × (file ≡ declared.file)
    × IsUnread files before after declared.file fault
IsTablesStop files before after model (stops.TableRefused table fault) =
    (declared : Table) × IsNextTable files model declared × (table ≡ declared.name)
    × (fault ≢ table_faults.OutOfMemory) × IsNoTableIn files model declared fault
IsTablesStop files before after model (stops.Uncompiled fault) = ⊥
IsTablesStop files before after model stops.OutOfMemory = Unit {0}

-- the model with all of its tables
pub record IsWholeIn (files : Option Files) (name : List ℕ) (model : Model) (tables : List VariantTable) : Type 0 where
  pub model_is : IsModelIn files name model
  pub tables_are : AreTablesIn files model model.tables tables
  pub whole : length tables ≡ length model.tables

-- the plan is that of the model with these tables, and nothing refuses it
pub record HasPlan (model : Model) (tables : List VariantTable) (plan : Plan) : Type 0 where
  pub its : IsPlanOf model tables plan
  pub sound : IsSound model tables

-- why a model with its tables has none
abbrev pub IsCompileStop : Model → List VariantTable → ModelStop → Type 0
IsCompileStop model tables (stops.Unread fault) = ⊥
IsCompileStop model tables (stops.TextRefused kind line) = ⊥
IsCompileStop model tables (stops.TableUnread file fault) = ⊥
IsCompileStop model tables (stops.TableRefused table fault) = ⊥
IsCompileStop model tables (stops.Uncompiled fault) = IsRefusal model tables fault
IsCompileStop model tables stops.OutOfMemory = Unit {0}

-- the files hold a model with all of its tables, and this is its plan
pub record IsPlanIn (files : Option Files) (name : List ℕ) (plan : Plan) : Type 0 where
  pub model : Model
  pub tables : List VariantTable
  pub whole : IsWholeIn files name model tables
  pub compiled : HasPlan model tables plan

-- the files hold a model with all of its tables that has no plan, for this fault
pub record IsUncompiledIn (files : Option Files) (name : List ℕ) (fault : CompileFault) : Type 0 where
  pub model : Model
  pub tables : List VariantTable
  pub whole : IsWholeIn files name model tables
  pub refused : IsRefusal model tables fault

-- the model is read, and its tables aren't all there
abbrev pub IsStopAfter : Option Files → ℕ → ℕ → List ℕ → ModelStop → Type 0
IsStopAfter files before after name stop = (model : Model) × IsModelIn files name model
    × IsTablesStop files before after model stop

-- why a model has no plan: its text wasn't read or spells none, or the text is read and its tables aren't all there, or
-- all is there and nothing can be made of it
abbrev pub IsStop : Option Files → ℕ → ℕ → List ℕ → ModelStop → Type 0
IsStop files before after name (stops.Unread fault) = IsUnread files before after name fault
IsStop files before after name (stops.TextRefused kind line) = IsRefusedIn files name kind line
IsStop files before after name (stops.TableUnread file fault) =
    IsStopAfter files before after name (stops.TableUnread file fault)
IsStop files before after name (stops.TableRefused table fault) =
    IsStopAfter files before after name (stops.TableRefused table fault)
IsStop files before after name (stops.Uncompiled fault) = IsUncompiledIn files name fault
IsStop files before after name stops.OutOfMemory = Unit {0}
