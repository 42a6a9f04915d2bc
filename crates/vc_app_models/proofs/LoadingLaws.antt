-- Laws of what is read of a model.
use Rattle.std.proofs.Common.{◌≡◌, ◌≢◌, ℕ, zero, suc, ◌≤◌, List, [], ◌∷◌, ◌++◌, length, refl, sym, ap, subst, ◌∙◌}
use Rattle.std.proofs.Common.{arith, Option, Some, None, Result, Ok, Err}
use Rattle.std.specs.Prelude.{slice_get, option_map}
use Rattle.std.proofs.lemmas.Option.{none-some, same_Some}
use Rattle.vc_outside.specs.Faults.{Raised}
use Rattle.vc_outside.specs.Shelves.{Files, Holds}
use Rattle.vc_outside.specs.declared.file.FileFault.{FileFault}
use Rattle.vc_outside.specs.declared.file.FileFault.TheVariants as faults
use Rattle.vc_outside.specs.declared.file.TheConstants.{FILE_LIMIT}
use Rattle.vc_model_parts.specs.Headers.{header_of}
use Rattle.vc_model_parts.specs.declared.parts.Model.{Model}
use Rattle.vc_model_parts.specs.declared.parts.Table.{Table}
use Rattle.vc_table.specs.Faults.{number_of}
use Rattle.vc_table.specs.Records.{Fields, records_of}
use Rattle.vc_table.specs.Tables.{rows_of}
use Rattle.vc_table.specs.declared.table.Row.{Row}
use Rattle.vc_table.specs.declared.table.TableFault.{TableFault}
use Rattle.vc_table.specs.declared.table.TableFault.TheVariants as table_faults
use Rattle.vc_table.specs.declared.table.VariantTable.{VariantTable}
use Rattle.vc_value.specs.declared.table_header.TableHeader.{TableHeader}
use Rattle.vc_plan.specs.Valid.{IsValid}
use Rattle.vc_plan.specs.declared.plans.Plan.{Plan}
use Rattle.vc_compile_laws.specs.Compiles.{AreRead}
use Rattle.vc_compile.specs.Compiled.{IsValidIfRead}
use Rattle.vc_app_models.specs.Loading.{rows_in, rows_at, stop_at, IsModelIn, IsTableIn, IsNoTableIn, AreTablesIn}
use Rattle.vc_app_models.specs.Loading.{IsUnread, IsTextStop, IsTableAt, IsTableStop, IsNextTable, IsTablesStop}
use Rattle.vc_app_models.specs.Loading.{IsWholeIn, IsCompileStop, IsStop}
use Rattle.vc_app_models.specs.declared.stop.ModelStop.{ModelStop}
use Rattle.vc_app_models.specs.declared.stop.ModelStop.TheVariants as stops

-- what is made of something that is there
mapped : {A B : Type 0} (f : A → B) (o : Option A) (y : B) → option_map f o ≡ Some y
    → (x : A) × (o ≡ Some x) × (f x ≡ y)
mapped f None y h = absurd (none-some y h)
mapped f (Some x) y h = (x, refl, same_Some (f x) y h)

-- the rows under a table's header are those of the table of its number
pub rows_told : (model : Model) (number : ℕ) (text : List ℕ) (header : TableHeader) (r : Result (List Row) TableFault)
    → option_map (header_of model.texts model.characteristics) (slice_get model.tables number) ≡ Some header
    → rows_of header.columns (records_of text) ≡ r → rows_at model number text ≡ Some r
rows_told model number text header r h rows =
    let d = mapped (header_of model.texts model.characteristics) (slice_get model.tables number) header h in
    ap (option_map (λ declared. rows_in model declared text)) d.1
    ∙ ap Some (ap (λ (e : TableHeader). rows_of e.columns (records_of text)) d.2 ∙ rows)

-- a table that is declared has these rows
declared_rows : (model : Model) (number : ℕ) (text : List ℕ) (declared : Table) (r : Result (List Row) TableFault)
    → slice_get model.tables number ≡ Some declared → rows_at model number text ≡ Some r
    → rows_in model declared text ≡ r
declared_rows model number text declared r is h =
    same_Some (rows_in model declared text) r (sym (ap (option_map (λ d. rows_in model d text)) is) ∙ h)

pub table_read : (files : Option Files) (model : Model) (number : ℕ) (file name text : List ℕ) (table : VariantTable)
    → option_map (λ (t : Table). t.file) (slice_get model.tables number) ≡ Some file → name ≡ file
    → Holds files name text → length text ≤ FILE_LIMIT → rows_at model number text ≡ Some (Ok table.rows)
    → IsTableAt files model number table
table_read files model number file name text table h same held small rows =
    let d = mapped (λ (t : Table). t.file) (slice_get model.tables number) file h in (
      d.0,
      d.1,
      record {
        text = text;
        held = subst (λ n. Holds files n text) (same ∙ sym d.2) held;
        small = small;
        read = declared_rows model number text d.0 (Ok table.rows) d.1 rows;
      },
    )

pub table_unread : (files : Option Files) (before after : ℕ) (model : Model) (number : ℕ) (file name : List ℕ)
    (fault : FileFault)
    → option_map (λ (t : Table). t.file) (slice_get model.tables number) ≡ Some file → name ≡ file
    → IsUnread files before after name fault
    → IsTableStop files before after model number (stops.TableUnread name fault)
table_unread files before after model number file name fault h same unread =
    let d = mapped (λ (t : Table). t.file) (slice_get model.tables number) file h in
    (d.0, d.1, same ∙ sym d.2, subst (λ n. IsUnread files before after n fault) (same ∙ sym d.2) unread)

no_table : (files : Option Files) (model : Model) (number : ℕ) (file name text : List ℕ) (fault : TableFault)
    → option_map (λ (t : Table). t.file) (slice_get model.tables number) ≡ Some file → name ≡ file
    → Holds files name text → length text ≤ FILE_LIMIT → rows_at model number text ≡ Some (Err fault)
    → (declared : Table) × (slice_get model.tables number ≡ Some declared) × IsNoTableIn files model declared fault
no_table files model number file name text fault h same held small rows =
    let d = mapped (λ (t : Table). t.file) (slice_get model.tables number) file h in (
      d.0,
      d.1,
      record {
        text = text;
        held = subst (λ n. Holds files n text) (same ∙ sym d.2) held;
        small = small;
        read = declared_rows model number text d.0 (Err fault) d.1 rows;
      },
    )

-- a table whose file holds no rows of it stops there
refused_there : (files : Option Files) (model : Model) (number : ℕ) (declared_name : List ℕ) (fault : TableFault)
    → option_map (λ (t : Table). t.name) (slice_get model.tables number) ≡ Some declared_name
    → fault ≢ table_faults.OutOfMemory
    → (declared : Table) × (slice_get model.tables number ≡ Some declared) × IsNoTableIn files model declared fault
    → (declared : Table) × (slice_get model.tables number ≡ Some declared) × (declared_name ≡ declared.name)
    × (fault ≢ table_faults.OutOfMemory) × IsNoTableIn files model declared fault
refused_there files model number declared_name fault named told d = (
  d.0,
  d.1,
  sym (same_Some d.0.name declared_name (sym (ap (option_map (λ (t : Table). t.name)) d.1) ∙ named)),
  told,
  d.2,
)

pub table_refused : (files : Option Files) (before after : ℕ) (model : Model) (number : ℕ)
    (file name text declared_name : List ℕ)
    (fault : TableFault)
    → option_map (λ (t : Table). t.file) (slice_get model.tables number) ≡ Some file → name ≡ file
    → option_map (λ (t : Table). t.name) (slice_get model.tables number) ≡ Some declared_name
    → Holds files name text → length text ≤ FILE_LIMIT
    → (fault ≢ table_faults.OutOfMemory → rows_at model number text ≡ Some (Err fault))
    → IsTableStop files before after model number (stop_at declared_name fault)
table_refused files before after model number file name text declared_name (table_faults.Columns row) h same named held
    small rows =
    let told : table_faults.Columns row ≢ table_faults.OutOfMemory = λ e. none-some 1 (sym (ap number_of e)) in
    refused_there files model number declared_name (table_faults.Columns row) named told
    (no_table files model number file name text (table_faults.Columns row) h same held small (rows told))
table_refused files before after model number file name text declared_name (table_faults.Cell row) h same named held
    small rows =
    let told : table_faults.Cell row ≢ table_faults.OutOfMemory = λ e. none-some 2 (sym (ap number_of e)) in
    refused_there files model number declared_name (table_faults.Cell row) named told
    (no_table files model number file name text (table_faults.Cell row) h same held small (rows told))
table_refused files before after model number file name text declared_name (table_faults.DoubleKey row) h same named
    held small rows =
    let told : table_faults.DoubleKey row ≢ table_faults.OutOfMemory = λ e. none-some 3 (sym (ap number_of e)) in
    refused_there files model number declared_name (table_faults.DoubleKey row) named told
    (no_table files model number file name text (table_faults.DoubleKey row) h same held small (rows told))
table_refused files before after model number file name text declared_name table_faults.TooManyRows h same named held
    small rows =
    let told : table_faults.TooManyRows ≢ table_faults.OutOfMemory = λ e. none-some 4 (sym (ap number_of e)) in
    refused_there files model number declared_name table_faults.TooManyRows named told
    (no_table files model number file name text table_faults.TooManyRows h same held small (rows told))
table_refused files before after model number file name text declared_name table_faults.OutOfMemory h same named held
    small rows = tt

-- one table more
tables_more : (files : Option Files) (model : Model) (declared : List Table) (tables : List VariantTable) (next : Table)
    (table : VariantTable)
    → AreTablesIn files model declared tables → slice_get declared (length tables) ≡ Some next
    → IsTableIn files model next table
    → AreTablesIn files model declared (tables ++ table ∷ [])
tables_more files model [] [] next table are is read = absurd (none-some next is)
tables_more files model [] (t ∷ tables) next table are is read = absurd are
tables_more files model (d ∷ declared) [] next table are is read =
    (subst (λ e. IsTableIn files model e table) (sym (same_Some d next is)) read, tt)
tables_more files model (d ∷ declared) (t ∷ tables) next table are is read =
    (are.0, tables_more files model declared tables next table are.1 is read)

pub tables_push : (files : Option Files) (model : Model) (number : ℕ) (tables : List VariantTable)
    (table : VariantTable)
    → length tables ≡ number → AreTablesIn files model model.tables tables → IsTableAt files model number table
    → AreTablesIn files model model.tables (tables ++ table ∷ [])
tables_push files model number tables table count are at =
    tables_more files model model.tables tables at.0 table are (ap (slice_get model.tables) count ∙ at.1) at.2

-- tables that files hold are read with the headers that the model gives them
each_read : (files : Option Files) (model : Model) (declared : List Table) (tables : List VariantTable)
    → AreTablesIn files model declared tables → (t : ℕ) (table : Table) (read : VariantTable)
    → slice_get declared t ≡ Some table → slice_get tables t ≡ Some read
    → (records : List Fields)
    × (rows_of (header_of model.texts model.characteristics table).columns records ≡ Ok read.rows)
each_read files model declared [] are t table read is came = absurd (none-some read came)
each_read files model [] (first ∷ tables) are t table read is came = absurd are
each_read files model (next ∷ declared) (first ∷ tables) are zero table read is came =
    let text = (are.0).text in (
      records_of text,
      subst (λ v. rows_in model table text ≡ Ok v.rows) (same_Some first read came)
          (subst (λ d. rows_in model d text ≡ Ok first.rows) (same_Some next table is) (are.0).read),
    )
each_read files model (next ∷ declared) (first ∷ tables) are (suc t) table read is came =
    each_read files model declared tables are.1 t table read is came

pub tables_are_read : (files : Option Files) (model : Model) (tables : List VariantTable)
    → AreTablesIn files model model.tables tables
    → AreRead model tables
tables_are_read files model tables are = each_read files model model.tables tables are

-- a plan of a model and tables that files hold is valid
pub valid_in : (files later : Option Files) (name : List ℕ) (model : Model) (tables : List VariantTable) (plan : Plan)
    → IsModelIn files name model → AreTablesIn later model model.tables tables → IsValidIfRead model tables plan
    → IsValid plan
valid_in files later name model tables plan is are valid =
    valid is.text is.spelled (tables_are_read later model tables are)

-- a count that rose since a later moment rose since an earlier one
raised_since : (earlier before after : ℕ) → earlier ≤ before → Raised before after → Raised earlier after
raised_since earlier before after later raised = omega arith

unread_since : (files : Option Files) (earlier before after : ℕ) (name : List ℕ) (fault : FileFault)
    → earlier ≤ before → IsUnread files before after name fault → IsUnread files earlier after name fault
unread_since files earlier before after name faults.Missing later h = h
unread_since files earlier before after name faults.Failed later h = raised_since earlier before after later h
unread_since files earlier before after name faults.TooLarge later h = h
unread_since files earlier before after name faults.OutOfMemory later h = tt

-- what stops at a table stops the tables
next_table : (files : Option Files) (model : Model) (number : ℕ) (tables : List VariantTable) (declared : Table)
    → length tables ≡ number → AreTablesIn files model model.tables tables
    → slice_get model.tables number ≡ Some declared
    → IsNextTable files model declared
next_table files model number tables declared count are is = record {
  tables = tables;
  before = are;
  declared_is = ap (slice_get model.tables) count ∙ is;
}

pub table_stops : (files : Option Files) (earlier before after : ℕ) (model : Model) (number : ℕ)
    (tables : List VariantTable) (stop : ModelStop)
    → length tables ≡ number → AreTablesIn files model model.tables tables → earlier ≤ before
    → IsTableStop files before after model number stop → IsTablesStop files earlier after model stop
table_stops files earlier before after model number tables (stops.Unread fault) count are later h = absurd h
table_stops files earlier before after model number tables (stops.TextRefused kind line) count are later h = absurd h
table_stops files earlier before after model number tables (stops.TableUnread file fault) count are later h = (
  h.0,
  next_table files model number tables h.0 count are h.1,
  h.2,
  unread_since files earlier before after h.0.file fault later h.3,
)
table_stops files earlier before after model number tables (stops.TableRefused table fault) count are later h =
    (h.0, next_table files model number tables h.0 count are h.1, h.2, h.3, h.4)
table_stops files earlier before after model number tables (stops.Uncompiled fault) count are later h = absurd h
table_stops files earlier before after model number tables stops.OutOfMemory count are later h = tt

-- what stops at the model's text stops the model
pub text_stops : (files : Option Files) (before after : ℕ) (name text : List ℕ) (stop : ModelStop)
    → Holds files name text → length text ≤ FILE_LIMIT → IsTextStop text stop → IsStop files before after name stop
text_stops files before after name text (stops.Unread fault) held small h = absurd h
text_stops files before after name text (stops.TextRefused kind line) held small h =
    record { text = text; held = held; small = small; fault = h }
text_stops files before after name text (stops.TableUnread file fault) held small h = absurd h
text_stops files before after name text (stops.TableRefused table fault) held small h = absurd h
text_stops files before after name text (stops.Uncompiled fault) held small h = absurd h
text_stops files before after name text stops.OutOfMemory held small h = tt

-- what stops at the tables of a model stops the model
pub tables_stop : (files : Option Files) (earlier before after : ℕ) (name : List ℕ) (model : Model) (stop : ModelStop)
    → IsModelIn files name model → earlier ≤ before → IsTablesStop files before after model stop
    → IsStop files earlier after name stop
tables_stop files earlier before after name model (stops.Unread fault) is later h = absurd h
tables_stop files earlier before after name model (stops.TextRefused kind line) is later h = absurd h
tables_stop files earlier before after name model (stops.TableUnread file fault) is later h =
    (model, is, (h.0, h.1, h.2, unread_since files earlier before after h.0.file fault later h.3))
tables_stop files earlier before after name model (stops.TableRefused table fault) is later h = (model, is, h)
tables_stop files earlier before after name model (stops.Uncompiled fault) is later h = absurd h
tables_stop files earlier before after name model stops.OutOfMemory is later h = tt

-- and so does what stops where all is there
pub compile_stops : (files : Option Files) (before after : ℕ) (name : List ℕ) (model : Model)
    (tables : List VariantTable)
    (stop : ModelStop)
    → IsWholeIn files name model tables → IsCompileStop model tables stop → IsStop files before after name stop
compile_stops files before after name model tables (stops.Unread fault) whole h = absurd h
compile_stops files before after name model tables (stops.TextRefused kind line) whole h = absurd h
compile_stops files before after name model tables (stops.TableUnread file fault) whole h = absurd h
compile_stops files before after name model tables (stops.TableRefused table fault) whole h = absurd h
compile_stops files before after name model tables (stops.Uncompiled fault) whole h =
    record { model = model; tables = tables; whole = whole; refused = h }
compile_stops files before after name model tables stops.OutOfMemory whole h = tt
