-- What a call gives a column is of the sort of the column's list.
use Rattle.std.proofs.Common.{◌≡◌, ℕ, Bool, true, false, not, ◌&&◌, ◌||◌, List, Option, Some, refl, sym, ap, ◌∙◌}
use Rattle.std.specs.Prelude.{◌==◌, is_none, option_map, slice_get}
use Rattle.std.specs.Str.{bytes_eq}
use Rattle.std.proofs.lemmas.Bool.{and_from, eqb-true, or_left, or_right}
use Rattle.std.proofs.lemmas.List.Folds.{find_at}
use Rattle.std.proofs.lemmas.Option.{slice_get-map}
use Rattle.vc_value.specs.declared.table_header.Domain.{Domain}
use Rattle.vc_model_parts.specs.Headers.{domain_of}
use Rattle.vc_model_parts.specs.declared.parts.Model.{Model}
use Rattle.vc_model_parts.specs.declared.parts.Values.{Values}
use Rattle.vc_model_parts.specs.declared.parts.Values.TheVariants as values
use Rattle.vc_plan.specs.Lists.{list_in, list_of}
use Rattle.vc_plan.specs.Typing.{characteristic_of_column, column_in, column_list, has_numbers, has_texts, is_textual}
use Rattle.vc_plan.specs.Typing.{meets_list}
use Rattle.vc_plan.specs.declared.plans.Plan.{Plan}
use Rattle.vc_plan.specs.declared.terms.Term.{Term as StoredTerm}
use Rattle.vc_syntax_tree.specs.Trees.{Binding, TableCall}
use Rattle.vc_table.specs.declared.table.VariantTable.{VariantTable}
use Rattle.vc_types.specs.Looking as looking
use Rattle.vc_types.specs.Looking.{characteristic_named, column_if, table_named}
use Rattle.vc_types.specs.NameFaults.{is_unknown_column}
use Rattle.vc_types.specs.Occurrences.{operands_of}
use Rattle.vc_types.specs.Settings.{Setting, sort_in, sort_of_characteristic, sort_of_values}
use Rattle.vc_types.specs.SortFaults.{binds_wrongly, computes_with_text, is_number, is_text, sort_of, sort_of_column}
use Rattle.vc_types.specs.declared.meaning.Sort.{Sort}
use Rattle.vc_compile_plan.specs.Layouts.{layout_of}
use Rattle.vc_compile_plan.specs.PlanOf.{IsPlanOf}
use Rattle.vc_compile_plan.specs.Sites.{Site}
use Rattle.vc_compile_plan.specs.Tables.{characteristic_from, column_from, column_number, table_number}
use Rattle.vc_compile_plan.specs.Terms.{term_at}
use Rattle.vc_compile_plan.specs.Trees as trees
use Rattle.vc_compile_valid.specs.Domains.{HasLists}
use Rattle.vc_compile_valid.proofs.EachLaws.{Each}
use Rattle.vc_compile_meant.proofs.ColumnLaws.{column_at, column_there, found_passes, named_passes}
use Rattle.vc_compile_meant.proofs.SortLaws.{IsRead, is_numeric_tree, numeric_same}
use Rattle.vc_compile_origins.proofs.TableLaws.{planned_table}
use Rattle.vc_compile_sorts.proofs.TermSorts.{IsOne, is_of_sort, is_textual_tree, same_sort, term_one, term_sorted}
use Rattle.vc_compile_sorts.proofs.TermSorts.{textual_same}

-- the list of a characteristic is of its sort
list_numbers : (v : Values) → has_numbers (Some (domain_of v)) ≡ is_number (Some (sort_of_values v))
list_numbers (values.Texts size multiple listed) = refl
list_numbers (values.Numbers decimals unit listed) = refl

list_texts : (v : Values) → has_texts (Some (domain_of v)) ≡ is_text (Some (sort_of_values v))
list_texts (values.Texts size multiple listed) = refl
list_texts (values.Numbers decimals unit listed) = refl

values_one : (v : Values) → IsOne (Some (sort_of_values v))
values_one (values.Texts size multiple listed) = refl
values_one (values.Numbers decimals unit listed) = refl

-- a column that is there, with the sort of its list
pub record HasColumnSort (model : Model) (plan : Plan) (setting : Setting) (table name : List ℕ) : Type 0 where
  pub sort : Option Sort
  pub is : sort_of_column setting (looking.column_in setting.model name (table_named setting.model table)) ≡ sort
  pub numbers : has_numbers (column_list plan (table_number model table) (column_number model table name))
      ≡ is_number sort
  pub texts : has_texts (column_list plan (table_number model table) (column_number model table name)) ≡ is_text sort
  pub one : IsOne sort

pub column_sorted : (model : Model) (tables : List VariantTable) (plan : Plan) → IsPlanOf model tables plan
    → (setting : Setting)
    → setting.model ≡ model → (table name : List ℕ)
    → is_none (looking.column_in setting.model name (table_named setting.model table)) ≡ false
    → HasColumnSort model plan setting table name
column_sorted model tables plan is setting own table name known =
    let there = column_there model table name (sym (ap
    (λ m. is_none (looking.column_in m name (table_named m table))) own) ∙ known) in
    let passed : there.column.characteristic ≡ there.c =
    eqb-true there.column.characteristic there.c (found_passes
    (λ x. x.characteristic == there.c) there.tb.columns there.column there.found) in
    let named = named_passes model name there.c there.named in
    let here : looking.column_in model name (table_named model table) ≡ Some there.column =
    ap (λ o. column_if o (characteristic_named model name))
    (find_at (λ x. bytes_eq x.name table) model.tables ∙ there.table_is)
    ∙ ap (column_if (Some there.tb)) there.named ∙ there.found in
    let kept = planned_table tables 0 model.tables (table_number model table) there.tb there.table_is in
    let column : column_in (column_number model table name) (slice_get plan.tables (table_number model table))
    ≡ Some (column_from there.column) =
    ap (λ ts. column_in (column_number model table name) (slice_get ts (table_number model table))) is.tables
    ∙ ap (column_in (column_number model table name)) kept
    ∙ slice_get-map column_from there.tb.columns (column_number model table name)
    ∙ ap (λ n. option_map column_from (slice_get there.tb.columns n)) (column_at model table name there)
    ∙ ap (option_map column_from) (sym (find_at (λ x. x.characteristic == there.c) there.tb.columns) ∙ there.found) in
    let listed : column_list plan (table_number model table) (column_number model table name)
    ≡ Some (domain_of named.0.values) =
    ap (λ o. list_of plan (characteristic_of_column o)) column
    ∙ ap (λ c. list_in (slice_get plan.characteristics c)) passed
    ∙ ap (λ cs. list_in (slice_get cs there.c)) is.characteristics
    ∙ ap list_in (slice_get-map characteristic_from model.characteristics there.c)
    ∙ ap (λ o. list_in (option_map characteristic_from o)) named.1 in
    record {
      sort = Some (sort_of_values named.0.values);
      is = ap (λ m. sort_of_column setting (looking.column_in m name (table_named m table))) own
          ∙ ap (sort_of_column setting) here
          ∙ ap (λ m. sort_of_characteristic m there.column.characteristic) own
          ∙ ap (sort_of_characteristic model) passed
          ∙ ap sort_in named.1;
      numbers = ap has_numbers listed ∙ list_numbers named.0.values;
      texts = ap has_texts listed ∙ list_texts named.0.values;
      one = values_one named.0.values;
    }

-- a term of the list's sort meets it
abbrev pub meets_tree : Plan → Option Domain → trees.Term → Bool
meets_tree plan list t = (has_numbers list && is_numeric_tree plan t) || (has_texts list && is_textual_tree plan t)

pub meets_same : (plan : Plan) (list : Option Domain) (t : StoredTerm)
    → meets_list plan list t ≡ meets_tree plan list (trees.term_of t)
meets_same plan list t =
    ap (λ x. (has_numbers list && x) || (has_texts list && is_textual plan t)) (numeric_same plan t)
    ∙ ap (λ x. (has_numbers list && is_numeric_tree plan (trees.term_of t)) || (has_texts list && x))
    (textual_same plan t)

list_meets : (plan : Plan) (list : Option Domain) (s : Option Sort) → has_numbers list ≡ is_number s
    → has_texts list ≡ is_text s → IsOne s
    → (t : trees.Term) → is_of_sort plan (is_number s) t ≡ true → meets_tree plan list t ≡ true
list_meets plan list s numbers texts one t h = by (is_number s) refl h
  where
    by : (b : Bool) → is_number s ≡ b → is_of_sort plan b t ≡ true → meets_tree plan list t ≡ true
    by true e k =
        or_left (has_numbers list && is_numeric_tree plan t) (has_texts list && is_textual_tree plan t)
        (and_from (has_numbers list) (is_numeric_tree plan t) (numbers ∙ e) k)
    by false e k =
        or_right (has_numbers list && is_numeric_tree plan t) (has_texts list && is_textual_tree plan t)
        (and_from (has_texts list) (is_textual_tree plan t) (texts ∙ one ∙ ap not e) k)

-- what a binding gives
pub binding_meets : (model : Model) (tables : List VariantTable) (plan : Plan) → IsPlanOf model tables plan
    → HasLists plan → (site : Site)
    → site.setting.model ≡ model → (call : TableCall) (binding : Binding)
    → is_unknown_column site.setting call binding ≡ false
    → binds_wrongly site.setting call binding ≡ false → computes_with_text site.setting binding.value ≡ false
    → Each (IsRead model plan site) (operands_of binding.value)
    → meets_tree plan (column_list plan (table_number model call.table.name)
    (column_number model call.table.name binding.column.name))
    (term_at (layout_of model) site binding.value) ≡ true
binding_meets model tables plan is lists site own call binding known wrong computes reads =
    let column = column_sorted model tables plan is site.setting own call.table.name binding.column.name known in
    let here = sort_of_column site.setting (looking.column_in site.setting.model binding.column.name
    (table_named site.setting.model call.table.name)) in
    let value = sort_of site.setting binding.value in
    let same = same_sort here value (ap is_text column.is ∙ column.one ∙ sym (ap (λ s. not (is_number s)) column.is))
    (term_one model tables plan is lists site own binding.value reads) wrong in
    list_meets plan (column_list plan (table_number model call.table.name)
    (column_number model call.table.name binding.column.name))
    column.sort column.numbers column.texts column.one (term_at (layout_of model) site binding.value)
    (ap (λ b. is_of_sort plan b (term_at (layout_of model) site binding.value)) (sym (ap is_number column.is) ∙ same)
    ∙ term_sorted model tables plan is lists site own binding.value computes reads)
