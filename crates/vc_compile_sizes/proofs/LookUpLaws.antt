-- A look-up of a procedure gives a term to each key of its table, and fills other columns, each once.
use Rattle.std.proofs.Common.{◌≡◌, ℕ, zero, suc, ◌+◌, Bool, true, false, cond, not, ◌&&◌, ◌||◌, nat_lt, List, [], ◌∷◌}
use Rattle.std.proofs.Common.{◌++◌, length, map, flat_map, Option, Some, None, refl, sym, ap, ◌∙◌, arith}
use Rattle.std.specs.Prelude.{◌==◌, find, is_none, nat_eq, option_map, slice_get}
use Rattle.std.specs.Cmp.{nat_eq_equiv}
use Rattle.std.specs.Str.{bytes_eq}
use Rattle.std.specs.List.{IsDistinct, filter, list_all, list_any, position_or_len, range_with_len}
use Rattle.std.proofs.lemmas.Bool.{and_from, and_parts, eq-eqb, eqb-true, lt-ltb, not-true, not_from_false, or_left}
use Rattle.std.proofs.lemmas.Bool.{or_parts, or_right}
use Rattle.std.proofs.lemmas.List.{length-map}
use Rattle.std.proofs.lemmas.List.Folds.{find_at}
use Rattle.std.proofs.lemmas.Map.Made.{length-from_same_keys}
use Rattle.std.proofs.lemmas.Option.{slice_get-map, slice_get_within}
use Rattle.vc_base.specs.Sets.{has}
use Rattle.vc_base.proofs.ListLaws.{has_range, number_exact, number_itself, range_has}
use Rattle.vc_base.proofs.SetLaws.{all_at, filter_has, has_filter, none_from, same_test}
use Rattle.vc_model_parts.specs.declared.parts.Model.{Model}
use Rattle.vc_model_parts.specs.declared.parts.Table as declared
use Rattle.vc_model_parts.specs.declared.parts.TableColumn as declared_columns
use Rattle.vc_plan.specs.Domains.{numbers_below}
use Rattle.vc_plan.specs.LookUps.{is_key as is_key_of, is_key_column, keys_of, looks_up}
use Rattle.vc_plan.specs.Orders.{are_apart}
use Rattle.vc_plan.specs.declared.plans.Plan.{Plan}
use Rattle.vc_plan.specs.declared.plans.Table.{Table}
use Rattle.vc_plan.specs.declared.procedures.FilledColumn.{FilledColumn}
use Rattle.vc_plan.specs.declared.procedures.KeyTerm.{KeyTerm}
use Rattle.vc_syntax_tree.specs.Trees.{Binding, TableCall}
use Rattle.vc_table.specs.declared.table.VariantTable.{VariantTable}
use Rattle.vc_types.specs.Looking.{characteristic_named, column_if, column_in, table_named}
use Rattle.vc_types.specs.NameFaults.{is_unknown_call, is_unknown_column, names_column_twice}
use Rattle.vc_types.specs.PlaceFaults.{bound_column, gives_other, is_key, is_number, is_other, lacks_key}
use Rattle.vc_types.specs.PlaceFaults.{looks_up_wrongly, names_column}
use Rattle.vc_compile_plan.specs.Layouts.{Layout, layout_of}
use Rattle.vc_compile_plan.specs.Numbering.{keys_from}
use Rattle.vc_compile_plan.specs.PlanOf.{IsPlanOf}
use Rattle.vc_compile_plan.specs.Procedures.{KeyDraft, filled_by, key_of, operand_in, target}
use Rattle.vc_compile_plan.specs.Rules.{binding_at}
use Rattle.vc_compile_plan.specs.Sites.{Site}
use Rattle.vc_compile_plan.specs.Tables.{column_from, column_number, table_from, table_number}
use Rattle.vc_compile_plan.specs.Terms.{term_at}
use Rattle.vc_compile_valid.proofs.EachLaws.{Each, each_more}
use Rattle.vc_compile_valid.proofs.ListLaws.{apart_left, apart_mapped, passes_there, some_there}
use Rattle.vc_compile_meant.proofs.ColumnLaws.{IsColumn, column_at, column_there, columns_apart}
use Rattle.vc_compile_meant.proofs.FaultLaws.{each_false, each_here}
use Rattle.vc_compile_origins.proofs.TableLaws.{planned_table}
use Rattle.vc_compile_sizes.specs.LookUps.{HasColumnsApart}

-- whether a call gives a column as a key, and the column's number
abbrev keyed : Model → List ℕ → Binding → Bool
keyed model table b = is_key (column_in model b.column.name (table_named model table))

abbrev number : Model → List ℕ → Binding → ℕ
number model table b = column_number model table b.column.name

-- the columns of keys, and the others
keys_are : (layout : Layout) (site : Site) (table : List ℕ) (bindings : List Binding)
    → map (λ key. key.column) (flat_map (key_of layout site table) bindings)
    ≡ map (number layout.model table) (filter (keyed layout.model table) bindings)
keys_are layout site table [] = refl
keys_are layout site table (b ∷ bindings) = by (keyed layout.model table b) (keys_are layout site table bindings)
  where
    key : KeyDraft
    key = record { column = column_number layout.model table b.column.name; term = term_at layout site b.value }

    by : (k : Bool)
        → map (λ key. key.column) (flat_map (key_of layout site table) bindings)
        ≡ map (number layout.model table) (filter (keyed layout.model table) bindings)
        → map (λ key. key.column) (cond k (key ∷ []) [] ++ flat_map (key_of layout site table) bindings)
        ≡ map (number layout.model table)
        (cond k (b ∷ filter (keyed layout.model table) bindings) (filter (keyed layout.model table) bindings))
    by true e = ap (λ ns. number layout.model table b ∷ ns) e
    by false e = e

filled_are : (layout : Layout) (site : Site) (table : List ℕ) (bindings : List Binding)
    → map (λ column. column.column) (flat_map (filled_by layout site table) bindings)
    ≡ map (number layout.model table) (filter (λ b. not (keyed layout.model table b)) bindings)
filled_are layout site table [] = refl
filled_are layout site table (b ∷ bindings) = by (keyed layout.model table b) (filled_are layout site table bindings)
  where
    filled : FilledColumn
    filled = record {
      column = column_number layout.model table b.column.name;
      var = target layout site (operand_in b.value b.column);
    }

    by : (k : Bool)
        → map (λ column. column.column) (flat_map (filled_by layout site table) bindings)
        ≡ map (number layout.model table) (filter (λ b. not (keyed layout.model table b)) bindings)
        → map (λ column. column.column) (cond k [] (filled ∷ []) ++ flat_map (filled_by layout site table) bindings)
        ≡ map (number layout.model table)
        (cond (not k) (b ∷ filter (λ b. not (keyed layout.model table b)) bindings)
        (filter (λ b. not (keyed layout.model table b)) bindings))
    by true e = e
    by false e = ap (λ ns. number layout.model table b ∷ ns) e

numbers_kept : (t : ℕ) (keys : List KeyDraft)
    → map (λ key. key.column) (keys_from t keys) ≡ map (λ key. key.column) keys
numbers_kept t [] = refl
numbers_kept t (key ∷ keys) = ap (λ ns. key.column ∷ ns) (numbers_kept (suc t) keys)

-- what is said of columns is said of their numbers
all_by_number : {X : Type 0} (p : ℕ → Bool) (f : X → ℕ) (xs : List X) (ns : List ℕ) → map f xs ≡ ns
    → list_all p ns ≡ true → list_all (λ x. p (f x)) xs ≡ true
all_by_number p f xs ns e h = same xs ∙ ap (list_all p) e ∙ h
  where
    same : (ys : List _) → list_all (λ x. p (f x)) ys ≡ list_all p (map f ys)
    same [] = refl
    same (y ∷ ys) = ap (λ b. p (f y) && b) (same ys)

apart_by_number : {X : Type 0} (f : X → ℕ) (xs : List X) (ns : List ℕ) → map f xs ≡ ns
    → are_apart (λ a b. a == b) ns ≡ true → are_apart (λ a b. f a == f b) xs ≡ true
apart_by_number f xs ns e h = sym (apart_mapped (λ a b. a == b) f xs) ∙ ap (are_apart (λ a b. a == b)) e ∙ h

count_by_number : {X : Type 0} (f : X → ℕ) (xs : List X) (ns : List ℕ) → map f xs ≡ ns → length xs ≡ length ns
count_by_number f xs ns e = sym (length-map xs f) ∙ ap length e

-- numbers without doubles
distinct_apart : (ns : List ℕ) → are_apart (λ a b. a == b) ns ≡ true → IsDistinct nat_eq ns
unfolding IsDistinct
distinct_apart [] h = tt
distinct_apart (n ∷ ns) h =
    let parts = and_parts (not (list_any (λ m. n == m) ns)) (are_apart (λ a b. a == b) ns) h in
    (none_from (nat_eq n) ns (not-true (list_any (λ m. n == m) ns) parts.0), distinct_apart ns parts.1)

range_apart : (a n : ℕ) → are_apart (λ a b. a == b) (range_with_len a n) ≡ true
range_apart a zero = refl
range_apart a (suc n) =
    and_from (not (list_any (λ m. a == m) (range_with_len (a + 1) n)))
    (are_apart (λ a b. a == b) (range_with_len (a + 1) n))
    (not_from_false (list_any (λ m. a == m) (range_with_len (a + 1) n))
    (none (list_any (λ m. a == m) (range_with_len (a + 1) n)) refl))
    (range_apart (a + 1) n)
  where
    none : (b : Bool) → list_any (λ m. a == m) (range_with_len (a + 1) n) ≡ b → b ≡ false
    none true e = absurd (let low = (has_range (a + 1) n a e).0 in omega (arith, low))
    none false e = refl

-- in a list without doubles one thing has one place
one_position : {X : Type 0} (c : X → ℕ) (d : ℕ) (xs : List X) (q : ℕ) (x : X) → are_apart (λ a b. c a == c b) xs ≡ true
    → slice_get xs q ≡ Some x → c x ≡ d → position_or_len (λ y. c y == d) xs ≡ q
one_position c d [] q x apart e f = absurd (cc)
one_position c d (y ∷ xs) zero x apart e f =
    let same : y ≡ x = cc in
    ap (λ b. cond (not b) (1 + position_or_len (λ y. c y == d) xs) 0) (eq-eqb (c y) d (ap c same ∙ f))
one_position {X = X} c d (y ∷ xs) (suc q) x apart e f =
    let parts = and_parts (not (list_any (λ z. c y == c z) xs)) (are_apart (λ a b. c a == c b) xs) apart in
    by (c y == d) refl (not-true (list_any (λ z. c y == c z) xs) parts.0) (one_position c d xs q x parts.1 e f)
  where
    there : (xs : List X) (k : ℕ) → slice_get xs k ≡ Some x → list_any (λ z. c y == c z) xs ≡ false → c y ≡ d → ⊥
    there [] k e h g = absurd (cc)
    there (z ∷ xs) zero e h g =
        let same : z ≡ x = cc in
        let parts = or_parts (c y == c z) (list_any (λ z. c y == c z) xs) h in
        let both : true ≡ false = sym (eq-eqb (c y) (c z) (g ∙ sym f ∙ ap c (sym same))) ∙ parts.0 in cc
    there (z ∷ xs) (suc k) e h g = there xs k e (or_parts (c y == c z) (list_any (λ z. c y == c z) xs) h).1 g

    one_more : (n : ℕ) → 1 + n ≡ suc n
    one_more n = omega arith

    by : (b : Bool) → (c y == d) ≡ b → list_any (λ z. c y == c z) xs ≡ false → position_or_len (λ y. c y == d) xs ≡ q
        → cond (not b) (1 + position_or_len (λ y. c y == d) xs) 0 ≡ suc q
    by true is none more = absurd (there xs q e none (eqb-true (c y) d is))
    by false is none more = ap (λ n. 1 + n) more ∙ one_more q

-- a call's table, and what is known of its columns
record IsCall (model : Model) (plan : Plan) (name : List ℕ) : Type 0 where
  tb : declared.Table
  named : table_named model name ≡ Some tb
  stands : slice_get model.tables (table_number model name) ≡ Some tb
  table : Table
  there : slice_get plan.tables (table_number model name) ≡ Some table
  columns : table.columns ≡ map column_from tb.columns
  apart : are_apart (λ a b. a.characteristic == b.characteristic) tb.columns ≡ true

call_is : (model : Model) (tables : List VariantTable) (plan : Plan) → IsPlanOf model tables plan → HasColumnsApart plan
    → (name : List ℕ) → is_none (table_named model name) ≡ false → IsCall model plan name
call_is model tables plan is apart name some = by (table_named model name) refl some
  where
    by : (o : Option declared.Table) → table_named model name ≡ o → is_none o ≡ false → IsCall model plan name
    by None e h = absurd (cc)
    by (Some tb) e h =
        let n = table_number model name in
        let stands = sym (find_at (λ table. bytes_eq table.name name) model.tables) ∙ e in
        let there : slice_get plan.tables n ≡ Some (table_from tb (slice_get tables (0 + n))) =
        ap (λ ts. slice_get ts n) is.tables ∙ planned_table tables 0 model.tables n tb stands in
        record {
          tb = tb;
          named = e;
          stands = stands;
          table = table_from tb (slice_get tables (0 + n));
          there = there;
          columns = refl;
          apart = sym (apart_mapped (λ a b. a.characteristic == b.characteristic) column_from tb.columns)
              ∙ passes_there (λ table. are_apart (λ a b. a.characteristic == b.characteristic) table.columns)
              plan.tables n
              (table_from tb (slice_get tables (0 + n))) apart.table_columns there;
        }

-- a column of the table is a key or not
key_at : (tb : declared.Table) (table : Table) → table.columns ≡ map column_from tb.columns
    → (k : ℕ) (column : declared_columns.TableColumn)
    → slice_get tb.columns k ≡ Some column → is_key_of table k ≡ column.key
key_at tb table e k column f =
    ap (λ cs. is_key_column (slice_get cs k)) e
    ∙ ap is_key_column (slice_get-map column_from tb.columns k)
    ∙ ap (λ o. is_key_column (option_map column_from o)) f

column_place_is : (model : Model) (plan : Plan) (name column : List ℕ) (call : IsCall model plan name)
    (col : IsColumn model name column)
    → slice_get call.tb.columns (column_number model name column) ≡ Some col.column
column_place_is model plan name column call col =
    let both : Some call.tb ≡ Some col.tb = sym call.stands ∙ col.table_is in
    let same : call.tb ≡ col.tb = cc in
    ap (λ t. slice_get t.columns (column_number model name column)) same
    ∙ ap (slice_get col.tb.columns) (column_at model name column col)
    ∙ sym (find_at (λ x. x.characteristic == col.c) col.tb.columns) ∙ col.found

column_named : (model : Model) (plan : Plan) (name column : List ℕ) (call : IsCall model plan name)
    (col : IsColumn model name column)
    → column_in model column (table_named model name) ≡ Some col.column
column_named model plan name column call col =
    let both : Some call.tb ≡ Some col.tb = sym call.stands ∙ col.table_is in
    let same : call.tb ≡ col.tb = cc in
    ap (λ t. column_if t (characteristic_named model column)) call.named
    ∙ ap (column_if (Some call.tb)) col.named
    ∙ ap (λ t. find (λ x. x.characteristic == col.c) t.columns) same ∙ col.found

keyed_is : (model : Model) (plan : Plan) (name : List ℕ) (call : IsCall model plan name) (b : Binding)
    (col : IsColumn model name b.column.name)
    → is_key_of call.table (number model name b) ≡ keyed model name b
keyed_is model plan name call b col =
    key_at call.tb call.table call.columns (number model name b) col.column
    (column_place_is model plan name b.column.name call col)
    ∙ sym (ap is_key (column_named model plan name b.column.name call col))

-- so keys are given as keys, and others filled
abbrev AreColumns : Model → List ℕ → List Binding → Type 0
AreColumns model name bindings = Each (λ b. IsColumn model name b.column.name) bindings

all_keys : (model : Model) (plan : Plan) (name : List ℕ) (call : IsCall model plan name) (bindings : List Binding)
    → AreColumns model name bindings
    → list_all (is_key_of call.table) (map (number model name) (filter (keyed model name) bindings)) ≡ true
all_keys model plan name call [] cols = refl
all_keys model plan name call (b ∷ bindings) cols =
    by (keyed model name b) (keyed_is model plan name call b cols.0) (all_keys model plan name call bindings cols.1)
  where
    by : (k : Bool) → is_key_of call.table (number model name b) ≡ k
        → list_all (is_key_of call.table) (map (number model name) (filter (keyed model name) bindings)) ≡ true
        → list_all (is_key_of call.table)
        (map (number model name) (cond k (b ∷ filter (keyed model name) bindings) (filter (keyed model name) bindings)))
        ≡ true
    by true e more =
        and_from (is_key_of call.table (number model name b))
        (list_all (is_key_of call.table) (map (number model name) (filter (keyed model name) bindings))) e more
    by false e more = more

no_keys : (model : Model) (plan : Plan) (name : List ℕ) (call : IsCall model plan name) (bindings : List Binding)
    → AreColumns model name bindings
    → list_all (λ k. not (is_key_of call.table k))
    (map (number model name) (filter (λ b. not (keyed model name b)) bindings)) ≡ true
no_keys model plan name call [] cols = refl
no_keys model plan name call (b ∷ bindings) cols =
    by (keyed model name b) (keyed_is model plan name call b cols.0) (no_keys model plan name call bindings cols.1)
  where
    rest : List Binding
    rest = filter (λ b. not (keyed model name b)) bindings

    by : (k : Bool) → is_key_of call.table (number model name b) ≡ k
        → list_all (λ k. not (is_key_of call.table k)) (map (number model name) rest) ≡ true
        → list_all (λ k. not (is_key_of call.table k)) (map (number model name) (cond (not k) (b ∷ rest) rest)) ≡ true
    by true e more = more
    by false e more =
        and_from (not (is_key_of call.table (number model name b)))
        (list_all (λ k. not (is_key_of call.table k)) (map (number model name) rest))
        (not_from_false (is_key_of call.table (number model name b)) e) more

-- a key of the table is one that the call gives
given_among : (model : Model) (name : List ℕ) (q : ℕ) (bindings : List Binding) (j : ℕ) (b : Binding)
    → slice_get bindings j ≡ Some b
    → keyed model name b ≡ true → number model name b ≡ q
    → has nat_eq (map (number model name) (filter (keyed model name) bindings)) q ≡ true
given_among model name q [] j b e key is = absurd (cc)
given_among model name q (x ∷ bindings) zero b e key is =
    let same : x ≡ b = cc in
    ap (λ k. has nat_eq (map (number model name)
    (cond k (x ∷ filter (keyed model name) bindings) (filter (keyed model name) bindings))) q)
    (ap (keyed model name) same ∙ key)
    ∙ or_left (nat_eq q (number model name x))
    (has nat_eq (map (number model name) (filter (keyed model name) bindings)) q)
    (eq-eqb q (number model name x) (sym is ∙ ap (number model name) (sym same)))
given_among model name q (x ∷ bindings) (suc j) b e key is =
    by (keyed model name x) (given_among model name q bindings j b e key is)
  where
    by : (k : Bool) → has nat_eq (map (number model name) (filter (keyed model name) bindings)) q ≡ true
        → has nat_eq (map (number model name)
        (cond k (x ∷ filter (keyed model name) bindings) (filter (keyed model name) bindings))) q ≡ true
    by true h = or_right (nat_eq q (number model name x))
        (has nat_eq (map (number model name) (filter (keyed model name) bindings)) q) h
    by false h = h

is_named : (c : ℕ) (o : Option ℕ) → is_number c o ≡ true → o ≡ Some c
is_named c None h = absurd (cc)
is_named c (Some d) h = ap Some (sym (eqb-true c d h))

-- what is there passes, and what is no number of a column does not
key_there : (model : Model) (plan : Plan) (name : List ℕ) (call : IsCall model plan name) (q : ℕ)
    → is_key_of call.table q ≡ true
    → (column : declared_columns.TableColumn) × (slice_get call.tb.columns q ≡ Some column) × (column.key ≡ true)
key_there model plan name call q h = by (slice_get call.tb.columns q) refl
  where
    by : (o : Option declared_columns.TableColumn) → slice_get call.tb.columns q ≡ o
        → (column : declared_columns.TableColumn) × (slice_get call.tb.columns q ≡ Some column) × (column.key ≡ true)
    by None e = absurd (let both : false ≡ true =
        sym (ap (λ cs. is_key_column (slice_get cs q)) call.columns
        ∙ ap is_key_column (slice_get-map column_from call.tb.columns q)
        ∙ ap (λ o. is_key_column (option_map column_from o)) e) ∙ h in cc)
    by (Some column) e = (column, e, sym (key_at call.tb call.table call.columns q column e) ∙ h)

-- the keys that are given are the table's
record LooksUp (model : Model) (plan : Plan) (site : Site) (c : TableCall) : Type 0 where
  of : site.setting.model ≡ model
  call : IsCall model plan c.table.name
  cols : AreColumns model c.table.name c.bindings
  apart : are_apart (λ a b. a == b) (map (number model c.table.name) c.bindings) ≡ true
  some_key : list_any (λ column. column.key) call.tb.columns ≡ true
  keys : Each (λ column. lacks_key site.setting c column ≡ false) call.tb.columns
  some_other : list_any (λ binding. is_other (bound_column site.setting c binding)) c.bindings ≡ true

named_key : (key named : Bool) → key ≡ true → (key && not named) ≡ false → named ≡ true
named_key true true e h = refl
named_key true false e h = absurd (cc)
named_key false named e h = absurd (cc)

keys_given : (model : Model) (plan : Plan) (site : Site) (c : TableCall) (l : LooksUp model plan site c) (q : ℕ)
    → is_key_of l.call.table q ≡ true
    → has nat_eq (map (number model c.table.name) (filter (keyed model c.table.name) c.bindings)) q ≡ true
keys_given model plan site c l q h =
    let name = c.table.name in
    let found = key_there model plan name l.call q h in
    let column = found.0 in
    let given
    = some_there (λ binding. is_number column.characteristic
    (characteristic_named site.setting.model binding.column.name)) c.bindings
    (named_key column.key (names_column site.setting c column) found.2
    (each_here (λ column. lacks_key site.setting c column ≡ false) l.call.tb.columns q column l.keys found.1)) in
    let b = given.1 in
    let col = each_here (λ b. IsColumn model name b.column.name) c.bindings given.0 b l.cols given.2 in
    let means = ap (λ m. characteristic_named m b.column.name) (sym l.of)
    ∙ is_named column.characteristic (characteristic_named site.setting.model b.column.name) given.3 in
    let both : Some column.characteristic ≡ Some col.c = sym means ∙ col.named in
    let same : column.characteristic ≡ col.c = cc in
    let tbs : Some l.call.tb ≡ Some col.tb = sym l.call.stands ∙ col.table_is in
    let tb : l.call.tb ≡ col.tb = cc in
    let place : number model name b ≡ q =
    column_at model name b.column.name col
    ∙ ap (λ t. position_or_len (λ x. x.characteristic == col.c) t.columns) (sym tb)
    ∙ one_position (λ x. x.characteristic) col.c l.call.tb.columns q column l.call.apart found.1 same in
    given_among model name q c.bindings given.0 b given.2
    (sym (keyed_is model plan name l.call b col) ∙ ap (is_key_of l.call.table) place ∙ h) place

keys_same : (model : Model) (plan : Plan) (site : Site) (c : TableCall) (l : LooksUp model plan site c) (q : ℕ)
    → has nat_eq (map (number model c.table.name) (filter (keyed model c.table.name) c.bindings)) q
    ≡ has nat_eq (keys_of l.call.table) q
keys_same model plan site c l q =
    let table = l.call.table in
    let given = map (number model c.table.name) (filter (keyed model c.table.name) c.bindings) in
    let numbers = numbers_below (length table.columns) in
    same_test (has nat_eq given q) (has nat_eq (keys_of table) q)
    (λ h.
    let key
    = all_at nat_eq number_exact number_itself (is_key_of table) given q
    (all_keys model plan c.table.name l.call c.bindings l.cols) h in
    let found = key_there model plan c.table.name l.call q key in
    let below = slice_get_within l.call.tb.columns q found.0 found.1 in
    let size = ap length l.call.columns ∙ length-map l.call.tb.columns column_from in
    filter_has nat_eq number_exact number_itself (is_key_of table) numbers q
    (range_has 0 (length table.columns) q (omega arith) (omega (arith, below, size))) key)
    (λ h. keys_given model plan site c l q
    (has_filter nat_eq number_exact number_itself (is_key_of table) numbers q h).1)

-- numbers of bindings that are left are apart
left_apart : (model : Model) (name : List ℕ) (test : Binding → Bool) (bindings : List Binding)
    → are_apart (λ a b. a == b) (map (number model name) bindings) ≡ true
    → are_apart (λ a b. a == b) (map (number model name) (filter test bindings)) ≡ true
left_apart model name test bindings h =
    apart_mapped (λ a b. a == b) (number model name) (filter test bindings)
    ∙ apart_left (λ a b. number model name a == number model name b) test bindings
    (sym (apart_mapped (λ a b. a == b) (number model name) bindings) ∙ h)

-- something is given, and something filled
some_has : (ns : List ℕ) (q : ℕ) → has nat_eq ns q ≡ true → nat_lt 0 (length ns) ≡ true
some_has [] q h = absurd (cc)
some_has (n ∷ ns) q h = lt-ltb 0 (length (n ∷ ns)) (omega arith)

not_key : (o : Option declared_columns.TableColumn) → is_other o ≡ true → not (is_key o) ≡ true
not_key None h = absurd (cc)
not_key (Some column) h = h

some_left : (model : Model) (name : List ℕ) (bindings : List Binding)
    → list_any (λ b. is_other (column_in model b.column.name (table_named model name))) bindings ≡ true
    → nat_lt 0 (length (map (number model name) (filter (λ b. not (keyed model name b)) bindings))) ≡ true
some_left model name [] h = absurd (cc)
some_left model name (b ∷ bindings) h =
    by (is_other (column_in model b.column.name (table_named model name))) refl h (some_left model name bindings)
  where
    rest : List Binding
    rest = filter (λ b. not (keyed model name b)) bindings

    first : (k : Bool) → k ≡ true → nat_lt 0 (length (map (number model name) (cond k (b ∷ rest) rest))) ≡ true
    first true e = lt-ltb 0 (length (map (number model name) (b ∷ rest))) (omega arith)
    first false e = absurd (cc)

    more : (k : Bool) → nat_lt 0 (length (map (number model name) rest)) ≡ true
        → nat_lt 0 (length (map (number model name) (cond k (b ∷ rest) rest))) ≡ true
    more true e = lt-ltb 0 (length (map (number model name) (b ∷ rest))) (omega arith)
    more false e = e

    by : (o : Bool) → is_other (column_in model b.column.name (table_named model name)) ≡ o
        → (o || list_any (λ b. is_other (column_in model b.column.name (table_named model name))) bindings) ≡ true
        → (list_any (λ b. is_other (column_in model b.column.name (table_named model name))) bindings ≡ true
        → nat_lt 0 (length (map (number model name) rest)) ≡ true)
        → nat_lt 0 (length (map (number model name) (cond (not (keyed model name b)) (b ∷ rest) rest))) ≡ true
    by true e k later =
        first (not (keyed model name b)) (not_key (column_in model b.column.name (table_named model name)) e)
    by false e k later = more (not (keyed model name b)) (later k)

-- a look-up is as it should be
looked_up : (model : Model) (plan : Plan) (site : Site) (c : TableCall) → LooksUp model plan site c → (t : ℕ)
    → looks_up (keys_from t (flat_map (key_of (layout_of model) site c.table.name) c.bindings))
    (flat_map (filled_by (layout_of model) site c.table.name) c.bindings)
    (slice_get plan.tables (table_number model c.table.name)) ≡ true
looked_up model plan site c l t =
    ap (looks_up keys filled) l.call.there
    ∙ and_from
    ((nat_lt 0 (length keys) && are_apart (λ a b. a.column == b.column) keys)
    && ((length keys == length (keys_of table)) && list_all (λ key. is_key_of table key.column) keys))
    ((nat_lt 0 (length filled) && are_apart (λ a b. a.column == b.column) filled)
    && list_all (λ column. not (is_key_of table column.column)) filled)
    (and_from (nat_lt 0 (length keys) && are_apart (λ a b. a.column == b.column) keys)
    ((length keys == length (keys_of table)) && list_all (λ key. is_key_of table key.column) keys)
    (and_from (nat_lt 0 (length keys)) (are_apart (λ a b. a.column == b.column) keys)
    (ap (nat_lt 0) (count_by_number (λ key. key.column) keys given keys_same_numbers)
    ∙ some_has given some_key.0 (keys_given model plan site c l some_key.0 some_key.1))
    (apart_by_number (λ key. key.column) keys given keys_same_numbers given_apart))
    (and_from (length keys == length (keys_of table)) (list_all (λ key. is_key_of table key.column) keys)
    (eq-eqb (length keys) (length (keys_of table))
    (count_by_number (λ key. key.column) keys given keys_same_numbers
    ∙ length-from_same_keys nat_eq_equiv given (keys_of table) (distinct_apart given given_apart)
    (distinct_apart (keys_of table)
    (apart_left (λ a b. a == b) (is_key_of table) (numbers_below (length table.columns))
    (range_apart 0 (length table.columns))))
    (keys_same model plan site c l)))
    (all_by_number (is_key_of table) (λ key. key.column) keys given keys_same_numbers
    (all_keys model plan name l.call c.bindings l.cols))))
    (and_from (nat_lt 0 (length filled) && are_apart (λ a b. a.column == b.column) filled)
    (list_all (λ column. not (is_key_of table column.column)) filled)
    (and_from (nat_lt 0 (length filled)) (are_apart (λ a b. a.column == b.column) filled)
    (ap (nat_lt 0) (count_by_number (λ column. column.column) filled others filled_same_numbers)
    ∙ some_left model name c.bindings
    (ap (λ m. list_any (λ b. is_other (column_in m b.column.name (table_named m name))) c.bindings) (sym l.of)
    ∙ l.some_other))
    (apart_by_number (λ column. column.column) filled others filled_same_numbers
    (left_apart model name (λ b. not (keyed model name b)) c.bindings l.apart)))
    (all_by_number (λ k. not (is_key_of table k)) (λ column. column.column) filled others filled_same_numbers
    (no_keys model plan name l.call c.bindings l.cols)))
  where
    name : List ℕ
    name = c.table.name

    table : Table
    table = l.call.table

    keys : List KeyTerm
    keys = keys_from t (flat_map (key_of (layout_of model) site c.table.name) c.bindings)

    filled : List FilledColumn
    filled = flat_map (filled_by (layout_of model) site c.table.name) c.bindings

    given : List ℕ
    given = map (number model c.table.name) (filter (keyed model c.table.name) c.bindings)

    others : List ℕ
    others = map (number model c.table.name) (filter (λ b. not (keyed model c.table.name b)) c.bindings)

    keys_same_numbers : map (λ key. key.column)
        (keys_from t (flat_map (key_of (layout_of model) site c.table.name) c.bindings))
        ≡ map (number model c.table.name) (filter (keyed model c.table.name) c.bindings)
    keys_same_numbers =
        numbers_kept t (flat_map (key_of (layout_of model) site c.table.name) c.bindings)
        ∙ keys_are (layout_of model) site c.table.name c.bindings

    filled_same_numbers : map (λ column. column.column)
        (flat_map (filled_by (layout_of model) site c.table.name) c.bindings)
        ≡ map (number model c.table.name) (filter (λ b. not (keyed model c.table.name b)) c.bindings)
    filled_same_numbers = filled_are (layout_of model) site c.table.name c.bindings

    given_apart : are_apart (λ a b. a == b)
        (map (number model c.table.name) (filter (keyed model c.table.name) c.bindings)) ≡ true
    given_apart = left_apart model c.table.name (keyed model c.table.name) c.bindings l.apart

    some_key : (q : ℕ) × (is_key_of l.call.table q ≡ true)
    some_key =
        let found = some_there (λ column. column.key) l.call.tb.columns l.some_key in
        (found.0, key_at l.call.tb l.call.table l.call.columns found.0 found.1 found.2 ∙ found.3)

-- and so is that of a call without faults
true_of : (b : Bool) → not b ≡ false → b ≡ true
true_of true h = refl
true_of false h = absurd (cc)

pub look_up_proper : (model : Model) (tables : List VariantTable) (plan : Plan) → IsPlanOf model tables plan
    → HasColumnsApart plan
    → (site : Site) → site.setting.model ≡ model → (c : TableCall) → is_unknown_call site.setting c ≡ false
    → names_column_twice c ≡ false
    → looks_up_wrongly site.setting c (table_named site.setting.model c.table.name) ≡ false → (t : ℕ)
    → looks_up (keys_from t (flat_map (key_of (layout_of model) site c.table.name) c.bindings))
    (flat_map (filled_by (layout_of model) site c.table.name) c.bindings)
    (slice_get plan.tables (table_number model c.table.name)) ≡ true
look_up_proper model tables plan is apart site of c known twice right t =
    let parts
    = or_parts (is_none (table_named site.setting.model c.table.name))
    (list_any (is_unknown_column site.setting c) c.bindings) known in
    let call = call_is model tables plan is apart c.table.name
    (ap (λ m. is_none (table_named m c.table.name)) (sym of) ∙ parts.0) in
    let cols
    = each_more (λ b. is_unknown_column site.setting c b ≡ false) (λ b. IsColumn model c.table.name b.column.name)
    (λ b h. column_there model c.table.name b.column.name
    (ap (λ m. is_none (column_in m b.column.name (table_named m c.table.name))) (sym of) ∙ h)) c.bindings
    (each_false (is_unknown_column site.setting c) c.bindings parts.1) in
    let named = ap (λ m. table_named m c.table.name) of ∙ call.named in
    let rightly = ap (looks_up_wrongly site.setting c) (sym named) ∙ right in
    let halves
    = or_parts (not (list_any (λ column. column.key) call.tb.columns)
    || list_any (lacks_key site.setting c) call.tb.columns)
    (not (list_any (λ binding. is_other (bound_column site.setting c binding)) c.bindings)
    || list_any (gives_other site.setting c) c.bindings)
    rightly in
    let first
    = or_parts (not (list_any (λ column. column.key) call.tb.columns))
    (list_any (lacks_key site.setting c) call.tb.columns) halves.0 in
    let second = or_parts (not (list_any (λ binding. is_other (bound_column site.setting c binding)) c.bindings))
    (list_any (gives_other site.setting c) c.bindings) halves.1 in
    looked_up model plan site c (record {
      of = of;
      call = call;
      cols = cols;
      apart = apart_mapped (λ a b. a == b) (number model c.table.name) c.bindings
          ∙ sym (apart_mapped (λ a b. a.column == b.column) (binding_at (layout_of model) site c.table.name) c.bindings)
          ∙ columns_apart model site c.table.name c.bindings cols twice;
      some_key = true_of (list_any (λ column. column.key) call.tb.columns) first.0;
      keys = each_false (lacks_key site.setting c) call.tb.columns first.1;
      some_other = true_of (list_any (λ binding. is_other (bound_column site.setting c binding)) c.bindings) second.0;
    }) t
