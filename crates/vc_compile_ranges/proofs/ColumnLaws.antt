-- The tables and columns that calls name are the plan's.
use Rattle.std.proofs.Common.{◌≡◌, ℕ, ◌+◌, true, false, nat_lt, List, length, Option, Some, None, refl, sym, ap, ◌∙◌}
use Rattle.std.specs.Prelude.{◌==◌, is_none, slice_get}
use Rattle.std.specs.List.{position_or_len}
use Rattle.std.specs.Str.{bytes_eq}
use Rattle.std.proofs.lemmas.Bool.{lt-ltb}
use Rattle.std.proofs.lemmas.List.{length-map}
use Rattle.std.proofs.lemmas.List.Folds.{find_at}
use Rattle.std.proofs.lemmas.Option.{slice_get_within}
use Rattle.vc_model_parts.specs.declared.parts.Model.{Model}
use Rattle.vc_model_parts.specs.declared.parts.Table as declared
use Rattle.vc_plan.specs.Ranges.{is_of}
use Rattle.vc_plan.specs.RuleRanges.{width_in, width_of}
use Rattle.vc_plan.specs.declared.plans.Plan.{Plan}
use Rattle.vc_table.specs.declared.table.VariantTable.{VariantTable}
use Rattle.vc_types.specs.Looking.{column_in, table_named}
use Rattle.vc_compile_plan.specs.PlanOf.{IsPlanOf}
use Rattle.vc_compile_plan.specs.Tables.{column_from, column_number, table_from, table_number}
use Rattle.vc_compile_meant.proofs.ColumnLaws.{column_at, column_there}
use Rattle.vc_compile_origins.proofs.TableLaws.{planned_table}

module _ (model : Model) (tables : List VariantTable) (plan : Plan) (is : IsPlanOf model tables plan) where
  -- a table of the model has its number in the plan
  table_at : (name : List ℕ) (tb : declared.Table) → slice_get model.tables (table_number model name) ≡ Some tb
      → slice_get plan.tables (table_number model name) ≡ Some
      (table_from tb (slice_get tables (0 + table_number model name)))
  table_at name tb e =
      ap (λ ts. slice_get ts (table_number model name)) is.tables ∙ planned_table tables 0 model.tables
      (table_number model name) tb e

  -- a table that is named
  pub table_there : (name : List ℕ) → is_none (table_named model name) ≡ false
      → is_of plan.tables (table_number model name) ≡ true
  table_there name h = by (table_named model name) refl h
    where
      number : ℕ
      number = table_number model name

      by : (o : Option declared.Table) → table_named model name ≡ o → is_none o ≡ false
          → is_of plan.tables (table_number model name) ≡ true
      by None e k = absurd (cc)
      by (Some tb) e k =
          lt-ltb number (length plan.tables)
          (slice_get_within plan.tables number (table_from tb (slice_get tables (0 + number)))
          (table_at name tb (sym (find_at (λ table. bytes_eq table.name name) model.tables) ∙ e)))

  -- a column that is named stands among the table's
  pub column_below : (name column : List ℕ) → is_none (column_in model column (table_named model name)) ≡ false
      → nat_lt (column_number model name column) (width_of plan (table_number model name)) ≡ true
  column_below name column h =
      let there = column_there model name column h in
      let place = position_or_len (λ x. x.characteristic == there.c) there.tb.columns in
      ap (λ n. nat_lt n (width_of plan (table_number model name))) (column_at model name column there)
      ∙ ap (λ o. nat_lt place (width_in o)) (table_at name there.tb there.table_is)
      ∙ ap (nat_lt place) (length-map there.tb.columns column_from)
      ∙ lt-ltb place (length there.tb.columns)
      (slice_get_within there.tb.columns place there.column
      (sym (find_at (λ x. x.characteristic == there.c) there.tb.columns) ∙ there.found))
