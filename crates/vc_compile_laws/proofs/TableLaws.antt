-- The tables of a plan are its model's, with the rows that were read.
use Rattle.std.proofs.Common.{◌≡◌, ℕ, suc, ◌+◌, Bool, true, nat_lt, List, [], ◌∷◌, length, map}
use Rattle.std.proofs.Common.{Option, Some, None, refl, sym, ap, ◌∙◌, arith}
use Rattle.std.specs.Prelude.{◌==◌, nat_le, slice_get}
use Rattle.std.specs.List.{list_all}
use Rattle.std.proofs.lemmas.Bool.{and_parts, and_from, eq-eqb, or_right}
use Rattle.std.proofs.lemmas.List.{length-map}
use Rattle.std.proofs.lemmas.List.Folds.{list_all-map}
use Rattle.vc_value.specs.declared.value.Value.{Value}
use Rattle.vc_model.specs.Spelled.{Spells}
use Rattle.vc_model_parts.specs.Headers.{header_of}
use Rattle.vc_model_parts.specs.declared.parts.Characteristic.{Characteristic}
use Rattle.vc_model_parts.specs.declared.parts.Model.{Model}
use Rattle.vc_model_parts.specs.declared.parts.Table.{Table}
use Rattle.vc_model_parts.specs.declared.parts.TableColumn.{TableColumn}
use Rattle.vc_model_drafts.specs.Seen.{seen_model}
use Rattle.vc_model_laws.specs.Headers.{whole_domain}
use Rattle.vc_model_laws.specs.Keeps.{Keeps}
use Rattle.vc_model_laws.specs.Rows.{are_cells, list_at, KeepsRows}
use Rattle.vc_model_laws.proofs.SpelledLaws.{read_rows_are_kept, spelled_keeps_all}
use Rattle.vc_model_laws.proofs.TextsLaws.{passes_at, weaker}
use Rattle.vc_plan.specs.Lists.{are_listed, is_listed, list_of}
use Rattle.vc_plan.specs.LookUps.{keys_apart, keys_of}
use Rattle.vc_plan.specs.Orders.{are_apart}
use Rattle.vc_plan.specs.Ranges.{is_of, value_there}
use Rattle.vc_plan.specs.RuleRanges.{row_there, table_there}
use Rattle.vc_plan.specs.declared.plans.Plan.{Plan}
use Rattle.vc_plan.specs.declared.plans.Table as plans
use Rattle.vc_table.specs.declared.table.VariantTable.{VariantTable}
use Rattle.vc_compile_plan.specs.PlanOf.{IsPlanOf}
use Rattle.vc_compile_plan.specs.Tables.{characteristic_from, column_from, rows_in, table_from}
use Rattle.vc_compile_laws.specs.Compiles.{AreRead, CompiledKeeps}
use Rattle.vc_compile_laws.specs.Tables.{HasTables}
use Rattle.vc_compile_valid.proofs.ListLaws.{apart_mapped}
use Rattle.vc_compile_laws.proofs.ListedLaws.{list_same, list_there, listed_there}
use Rattle.vc_compile_laws.proofs.ThingLaws.{tables_pass}

-- the rows of a table, if it was read
abbrev pub Rows : Model → Table → Option VariantTable → Type 0
Rows model table None = Unit {0}
Rows model table (Some read) =
    KeepsRows (seen_model model) table (header_of model.texts model.characteristics table).columns read.rows

rows_kept : (text : List ℕ) (model : Model) (tables : List VariantTable) → Spells text (seen_model model)
    → AreRead model tables → (k : ℕ) (table : Table) → slice_get model.tables k ≡ Some table
    → Rows model table (slice_get tables (0 + k))
rows_kept text model tables spells read k table at = by (slice_get tables (0 + k)) (ap (slice_get tables) (same k))
  where
    same : (k : ℕ) → k ≡ 0 + k
    same k = omega arith

    by : (o : Option VariantTable) → slice_get tables k ≡ o → Rows model table o
    by None e = tt
    by (Some x) e =
        let records = read k table x at e in
        read_rows_are_kept text (seen_model model) k table records.0 x.rows spells at records.1

-- cells of a model's columns are cells of a plan's
cells_counted : (model : Model) (columns : List TableColumn) (cells : List Value)
    → are_cells (seen_model model) columns cells ≡ true → length cells ≡ length columns
cells_counted model [] [] h = refl
cells_counted model [] (a ∷ cells) h = absurd (cc)
cells_counted model (column ∷ columns) [] h = absurd (cc)
cells_counted model (column ∷ columns) (a ∷ cells) h =
    ap suc (cells_counted model columns cells
    (and_parts (is_listed (list_at (slice_get model.characteristics column.characteristic)) a)
    (are_cells (seen_model model) columns cells) h).1)

cells_listed : (model : Model) (tables : List VariantTable) (plan : Plan) → Keeps (seen_model model)
    → IsPlanOf model tables plan → (columns : List TableColumn) (cells : List Value)
    → are_cells (seen_model model) columns cells ≡ true → are_listed plan (map column_from columns) cells ≡ true
cells_listed model tables plan keeps is [] cells h = refl
cells_listed model tables plan keeps is (column ∷ columns) [] h = refl
cells_listed model tables plan keeps is (column ∷ columns) (a ∷ cells) h =
    let parts = and_parts (is_listed (list_at (slice_get model.characteristics column.characteristic)) a)
    (are_cells (seen_model model) columns cells) h in
    and_from (is_listed (list_of plan (Some column.characteristic)) a) (are_listed plan (map column_from columns) cells)
    (ap (λ o. is_listed o a) (list_same model tables plan keeps is column.characteristic) ∙ parts.0)
    (cells_listed model tables plan keeps is columns cells parts.1)

cells_there : (model : Model) (tables : List VariantTable) (plan : Plan) → Keeps (seen_model model)
    → IsPlanOf model tables plan → (columns : List TableColumn) (cells : List Value)
    → are_cells (seen_model model) columns cells ≡ true → list_all (value_there plan) cells ≡ true
cells_there model tables plan keeps is [] [] h = refl
cells_there model tables plan keeps is [] (a ∷ cells) h = absurd (cc)
cells_there model tables plan keeps is (column ∷ columns) [] h = refl
cells_there model tables plan keeps is (column ∷ columns) (a ∷ cells) h =
    let parts = and_parts (is_listed (list_at (slice_get model.characteristics column.characteristic)) a)
    (are_cells (seen_model model) columns cells) h in
    and_from (value_there plan a) (list_all (value_there plan) cells)
    (by (slice_get model.characteristics column.characteristic) refl parts.0)
    (cells_there model tables plan keeps is columns cells parts.1)
  where
    by : (o : Option Characteristic) → slice_get model.characteristics column.characteristic ≡ o
        → is_listed (list_at o) a ≡ true → value_there plan a ≡ true
    by None e h = absurd (cc)
    by (Some c) e h =
        listed_there plan (whole_domain c.values) a (list_there model tables plan keeps is column.characteristic c e) h

-- what rows pass of which a model's table keeps that they are its cells
rows_pass : (model : Model) (table : Table) (p : List Value → Bool)
    → ((cells : List Value) → are_cells (seen_model model) table.columns cells ≡ true → p cells ≡ true)
    → (o : Option VariantTable) → Rows model table o → list_all p (rows_in o) ≡ true
rows_pass model table p of None kept = refl
rows_pass model table p of (Some read) kept =
    list_all-map p (λ row. row.cells) read.rows
    ∙ weaker (λ row. are_cells (seen_model model) table.columns row.cells) (λ row. p row.cells) read.rows
    (λ row h. of row.cells h) kept.cells

keys_kept : (model : Model) (table : Table) (o : Option VariantTable) → Rows model table o
    → keys_apart (table_from table o) ≡ true
keys_kept model table None kept = or_right (length (keys_of (table_from table None)) == 0) true refl
keys_kept model table (Some read) kept = kept.planned_keys

rows_few : (model : Model) (table : Table) (o : Option VariantTable) → Rows model table o
    → nat_le (length (rows_in o)) 10_000 ≡ true
rows_few model table None kept = refl
rows_few model table (Some read) kept =
    ap (λ n. nat_le n 10_000) (length-map read.rows (λ row. row.cells)) ∙ kept.few

-- a table with the rows that were read, if they were
table_is_there : (model : Model) (tables : List VariantTable) (plan : Plan) → Keeps (seen_model model)
    → IsPlanOf model tables plan → (table : Table) (o : Option VariantTable) → Rows model table o
    → list_all (λ c. nat_lt c.characteristic (length model.characteristics)) table.columns ≡ true
    → table_there plan (table_from table o) ≡ true
table_is_there model tables plan keeps is table o kept inside =
    and_from (list_all (λ column. is_of plan.characteristics column.characteristic) (map column_from table.columns))
    (list_all (row_there plan (table_from table o)) (rows_in o))
    (ap (λ n. list_all (λ column. nat_lt column.characteristic n) (map column_from table.columns))
    (ap length is.characteristics ∙ length-map model.characteristics characteristic_from)
    ∙ list_all-map (λ column. nat_lt column.characteristic (length model.characteristics)) column_from table.columns
    ∙ inside)
    (rows_pass model table (row_there plan (table_from table o)) row o kept)
  where
    row : (cells : List Value) → are_cells (seen_model model) table.columns cells ≡ true
        → row_there plan (table_from table o) cells ≡ true
    row cells h =
        and_from (length cells == length (map column_from table.columns)) (list_all (value_there plan) cells)
        (eq-eqb (length cells) (length (map column_from table.columns))
        (cells_counted model table.columns cells h ∙ sym (length-map table.columns column_from)))
        (cells_there model tables plan keeps is table.columns cells h)

tables_of_plan : (model : Model) (tables : List VariantTable) (plan : Plan) → Keeps (seen_model model)
    → IsPlanOf model tables plan
    → ((k : ℕ) (table : Table) → slice_get model.tables k ≡ Some table → Rows model table (slice_get tables (0 + k)))
    → HasTables plan
tables_of_plan model tables plan keeps is rows = record {
  tables_there = pass (table_there plan) (λ k table e. table_is_there model tables plan keeps is table
      (slice_get tables (0 + k)) (rows k table e)
      (passes_at (λ t. list_all (λ c. nat_lt c.characteristic (length model.characteristics)) t.columns) model.tables k
      table
      keeps.indices.columns e));
  table_columns = pass (λ t. are_apart (λ a b. a.characteristic == b.characteristic) t.columns)
      (λ k table e. apart_mapped (λ a b. a.characteristic == b.characteristic) column_from table.columns
      ∙ passes_at (λ t. are_apart (λ a b. a.characteristic == b.characteristic) t.columns) model.tables k table
      keeps.lists.columns e);
  cells = pass (λ t. list_all (are_listed plan t.columns) t.rows)
      (λ k table e. rows_pass model table (are_listed plan (map column_from table.columns))
      (cells_listed model tables plan keeps is table.columns) (slice_get tables (0 + k)) (rows k table e));
  keys = pass keys_apart (λ k table e. keys_kept model table (slice_get tables (0 + k)) (rows k table e));
  row_limit = pass (λ t. nat_le (length t.rows) 10_000)
      (λ k table e. rows_few model table (slice_get tables (0 + k)) (rows k table e));
}
  where
    pass : (p : plans.Table → Bool)
        → ((k : ℕ) (x : Table) → slice_get model.tables k ≡ Some x → p (table_from x (slice_get tables (0 + k))) ≡ true)
        → list_all p plan.tables ≡ true
    pass p h = ap (list_all p) is.tables ∙ tables_pass tables p 0 model.tables h

pub has_tables : CompiledKeeps HasTables
has_tables text model tables plan spells read compiles =
    tables_of_plan model tables plan (spelled_keeps_all text (seen_model model) spells) compiles.is_its
    (rows_kept text model tables spells read)
