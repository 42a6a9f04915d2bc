-- Rows that are read with a model's header are rows of its columns' lists.
use Rattle.std.proofs.Common.{◌≡◌, ℕ, zero, suc, ◌+◌, ◌<◌, ◌≤◌, Bool, true, false, cond, not, ◌&&◌, ◌||◌}
use Rattle.std.proofs.Common.{nat_lt, List, [], ◌∷◌, ◌++◌, length, map, Option, Some, None, Result, Ok, Err}
use Rattle.std.proofs.Common.{if◌then◌else◌, refl, sym, ap, subst, ◌∙◌, length-append, arith}
use Rattle.std.specs.Prelude.{◌==◌, is_some, ok_or, option_map, position, slice_get}
use Rattle.std.specs.List.{cons_option, list_all, list_any, position_or_len}
use Rattle.std.specs.Option.{option_and_then}
use Rattle.std.specs.Cmp.Lexicographic.{pointwise}
use Rattle.std.proofs.lemmas.Bool.{and_parts, and_from, or_parts, or_from, or_left, or_right, not-true, not_from_false}
use Rattle.std.proofs.lemmas.Bool.{ltb-true, ltb-false, le-leb, eq-eqb}
use Rattle.std.proofs.lemmas.List.Folds.{list_any-append}
use Rattle.vc_value.specs.Decimals.{read_number}
use Rattle.vc_value.specs.Grains.{has_decimals, hold, holds}
use Rattle.vc_value.specs.Words.{same_bytes}
use Rattle.vc_value.specs.declared.decimal.Dec.{Dec}
use Rattle.vc_value.specs.declared.decimal.NumFault.{NumFault}
use Rattle.vc_value.specs.declared.grains.Grain.{Grain}
use Rattle.vc_value.specs.declared.table_header.Column.{Column}
use Rattle.vc_value.specs.declared.table_header.Domain.{Domain}
use Rattle.vc_value.specs.declared.table_header.Domain.TheVariants.{Texts, Nums}
use Rattle.vc_value.specs.declared.table_header.Entry.{Entry}
use Rattle.vc_value.specs.declared.value.Value.{Value}
use Rattle.vc_value.specs.declared.value.Value.TheVariants.{Text, Num}
use Rattle.vc_table.specs.declared.table.Row.{Row}
use Rattle.vc_table.specs.declared.table.TableFault.TheVariants.{Columns, Cell, DoubleKey, TooManyRows}
use Rattle.vc_table.specs.Records.{Fields}
use Rattle.vc_table.specs.Tables.{text_number, number_in, domain_value, value_of, values_of, are_names, key_of}
use Rattle.vc_table.specs.Tables.{has_keys, repeats, if_cells, rows_from, rows_of, same_value}
use Rattle.vc_model_parts.specs.Headers.{domain_of, texts_of, column_from, columns_of, header_of}
use Rattle.vc_model_parts.specs.declared.parts.Characteristic.{Characteristic}
use Rattle.vc_model_parts.specs.declared.parts.Table.{Table}
use Rattle.vc_model_parts.specs.declared.parts.TableColumn.{TableColumn}
use Rattle.vc_model_parts.specs.declared.parts.Values as parts
use Rattle.vc_model_parts.specs.declared.parts.Values.TheVariants as values
use Rattle.vc_model_drafts.specs.Seen.{SeenModel}
use Rattle.vc_plan.specs.Lists.{is_listed}
use Rattle.vc_plan.specs.Orders.{are_apart}
use Rattle.vc_model_laws.specs.Headers.{text_numbers, KeepsHeaders}
use Rattle.vc_model_laws.specs.Indices.{KeepsIndices}
use Rattle.vc_model_laws.specs.Rows.{are_cells, has_key_of, list_at, KeepsRows}
use Rattle.vc_model_laws.proofs.HeadersLaws.{there}
use Rattle.vc_model_laws.proofs.KeysLaws.{header_keys, planned_apart}
use Rattle.vc_model_laws.proofs.TextsLaws.{passes_at}

-- the number of a text is one of the entries'
number_listed : (entries : List Entry) (text : List ℕ) (n : ℕ) → text_number entries text ≡ Some n
    → list_any (λ s. s == n) (map (λ e. e.number) entries) ≡ true
number_listed [] text n h = absurd (cc)
number_listed (entry ∷ entries) text n h =
    by (same_bytes entry.text text) h (λ e. number_listed entries text n e)
  where
    by : (b : Bool) → (if b then Some entry.number else text_number entries text) ≡ Some n
        → (text_number entries text ≡ Some n → list_any (λ s. s == n) (map (λ e. e.number) entries) ≡ true)
        → ((entry.number == n) || list_any (λ s. s == n) (map (λ e. e.number) entries)) ≡ true
    by true e on =
        let same : entry.number ≡ n = cc in
        or_left (entry.number == n) (list_any (λ s. s == n) (map (λ e. e.number) entries)) (eq-eqb entry.number n same)
    by false e on = or_right (entry.number == n) (list_any (λ s. s == n) (map (λ e. e.number) entries)) (on e)

-- what has a place passes the test there
placed : {X : Type 0} (p : X → Bool) (xs : List X) → position_or_len p xs < length xs → list_any p xs ≡ true
placed p [] h = absurd (omega (arith, h))
placed p (x ∷ xs) h = by (p x) h (λ inside. placed p xs inside)
  where
    by : (b : Bool) → cond (not b) (1 + position_or_len p xs) 0 < suc (length xs)
        → (position_or_len p xs < length xs → list_any p xs ≡ true) → (b || list_any p xs) ≡ true
    by true h on = refl
    by false h on = on (omega (arith, h))

found : {X : Type 0} (p : X → Bool) (xs : List X) → is_some (position p xs) ≡ true → list_any p xs ≡ true
found {X = X} p xs h = by (nat_lt (position_or_len p xs) (length xs)) refl h
  where
    by : (b : Bool) → nat_lt (position_or_len p xs) (length xs) ≡ b
        → is_some (cond b (Some (position_or_len p xs)) None) ≡ true → list_any p xs ≡ true
    by true is h = placed p xs (ltb-true (position_or_len p xs) (length xs) is)
    by false is h = absurd (cc)

-- the entries of a column of texts have the numbers of its domain
abbrev HasTexts : Domain → List Entry → Type 0
HasTexts (Texts numbers) entries = map (λ e. e.number) entries ≡ numbers
HasTexts (Nums decimals grains) entries = Unit {0}

-- so what a field writes is a value of the domain
text_listed : (numbers : List ℕ) (entries : List Entry) (value : Value) (o : Option ℕ)
    → map (λ e. e.number) entries ≡ numbers
    → ((n : ℕ) → o ≡ Some n → list_any (λ s. s == n) (map (λ e. e.number) entries) ≡ true)
    → option_map Text o ≡ Some value → is_listed (Some (Texts numbers)) value ≡ true
text_listed numbers entries value None same listed h = absurd (cc)
text_listed numbers entries value (Some n) same listed h =
    let is : Text n ≡ value = cc in
    ap (is_listed (Some (Texts numbers))) (sym is) ∙ ap (list_any (λ s. s == n)) (sym same) ∙ listed n refl

number_held : (decimals : ℕ) (grains : List Grain) (value : Value) (r : Result Dec NumFault)
    → number_in decimals grains r ≡ Some value → is_listed (Some (Nums decimals grains)) value ≡ true
number_held decimals grains value (Err fault) h = absurd (cc)
number_held decimals grains value (Ok n) h =
    by (has_decimals decimals n && is_some (position (holds n) grains)) refl h
  where
    by : (b : Bool) → (has_decimals decimals n && is_some (position (holds n) grains)) ≡ b
        → (if b then Some (Num n) else None) ≡ Some value → is_listed (Some (Nums decimals grains)) value ≡ true
    by true is e =
        let same : Num n ≡ value = cc in
        let parts = and_parts (has_decimals decimals n) (is_some (position (holds n) grains)) is in
        ap (is_listed (Some (Nums decimals grains))) (sym same)
        ∙ and_from (hold n grains) (has_decimals decimals n) (found (holds n) grains parts.1) parts.0
    by false is e = absurd (cc)

value_listed : (domain : Domain) (entries : List Entry) (field : List ℕ) (value : Value) → HasTexts domain entries
    → domain_value domain entries field ≡ Some value → is_listed (Some domain) value ≡ true
value_listed (Texts numbers) entries field value same h =
    text_listed numbers entries value (text_number entries field) same (λ n e. number_listed entries field n e) h
value_listed (Nums decimals grains) entries field value same h = number_held decimals grains value (read_number field) h

-- the header's column of a characteristic
column_texts : (texts : List (List ℕ)) (listed : parts.Values)
    → map (λ e. e.number) (texts_of texts listed) ≡ text_numbers listed
    → HasTexts (domain_of listed) (texts_of texts listed)
column_texts texts (values.Texts length multiple listed) h = h
column_texts texts (values.Numbers decimals unit listed) h = tt

-- the cells of a row are values of the lists of a model's columns
cells_kept : (model : SeenModel) → KeepsHeaders model
    → (columns : List TableColumn) (fields : Fields) (cells : List Value)
    → list_all (λ c. nat_lt c.characteristic (length model.characteristics)) columns ≡ true
    → values_of (columns_of model.texts model.characteristics columns) fields ≡ Some cells
    → are_cells model columns cells ≡ true
cells_kept model keeps [] fields cells inside h = let same : [] ≡ cells = cc in ap (are_cells model []) (sym same)
cells_kept model keeps (column ∷ columns) fields cells inside h =
    by fields (λ rest more. cells_kept model keeps columns rest more parts.1)
    (ap (λ cs. values_of cs fields) (sym first) ∙ h)
  where
    parts : (nat_lt column.characteristic (length model.characteristics) ≡ true)
        × (list_all (λ c. nat_lt c.characteristic (length model.characteristics)) columns ≡ true)
    parts = and_parts (nat_lt column.characteristic (length model.characteristics))
        (list_all (λ c. nat_lt c.characteristic (length model.characteristics)) columns) inside

    at : (c : Characteristic) × (slice_get model.characteristics column.characteristic ≡ Some c)
    at = there model.characteristics column.characteristic parts.0

    head : Column
    head = column_from model.texts column.key at.0

    rest : List Column
    rest = columns_of model.texts model.characteristics columns

    first : columns_of model.texts model.characteristics (column ∷ columns) ≡ head ∷ rest
    first = ap (λ o. cons_option (option_map (column_from model.texts column.key) o) rest) at.1

    list : list_at (slice_get model.characteristics column.characteristic) ≡ Some (domain_of at.0.values)
    list = ap list_at at.1 ∙ ap Some (sym (keeps.domains column.characteristic at.0 at.1))

    listed : (field : List ℕ) (value : Value) → value_of head field ≡ Some value
        → is_listed (Some (domain_of at.0.values)) value ≡ true
    listed field value e =
        value_listed (domain_of at.0.values) (texts_of model.texts at.0.values) field value
        (column_texts model.texts at.0.values (keeps.entries column.characteristic at.0 at.1)) e

    joined : (value : Value) (o : Option (List Value)) → is_listed (Some (domain_of at.0.values)) value ≡ true
        → ((more : List Value) → o ≡ Some more → are_cells model columns more ≡ true)
        → option_map (λ vs. value ∷ vs) o ≡ Some cells → are_cells model (column ∷ columns) cells ≡ true
    joined value None l on e = absurd (cc)
    joined value (Some more) l on e =
        let same : value ∷ more ≡ cells = cc in
        ap (are_cells model (column ∷ columns)) (sym same)
        ∙ and_from (is_listed (list_at (slice_get model.characteristics column.characteristic)) value)
        (are_cells model columns more)
        (ap (λ o. is_listed o value) list ∙ l) (on more refl)

    by : (fields : Fields) → ((others : Fields) (more : List Value) → values_of rest others ≡ Some more
        → are_cells model columns more ≡ true)
        → values_of (head ∷ rest) fields ≡ Some cells → are_cells model (column ∷ columns) cells ≡ true
    by [] on e = absurd (cc)
    by (field ∷ others) on e = valued (value_of head field) refl e
      where
        valued : (o : Option Value) → value_of head field ≡ o
            → option_and_then (λ value. option_map (λ vs. value ∷ vs) (values_of rest others)) o ≡ Some cells
            → are_cells model (column ∷ columns) cells ≡ true
        valued None is e = absurd (cc)
        valued (Some value) is e = joined value (values_of rest others) (listed field value is)
            (λ more is. on others more is) e

-- what is kept from each record to the next
pub record Rows (Good : List Value → Type 0) (columns : List Column) (rows : List Row) : Type 0 where
  pub good : (k : ℕ) (row : Row) → slice_get rows k ≡ Some row → Good row.cells
  pub apart : (not (has_keys columns) || are_apart (has_key_of columns) rows) ≡ true

last_or : {X : Type 0} (P : X → Type 0) (xs : List X) (x : X) → ((k : ℕ) (y : X) → slice_get xs k ≡ Some y → P y) → P x
    → (k : ℕ) (y : X) → slice_get (xs ++ x ∷ []) k ≡ Some y → P y
last_or P [] x all here zero y e = subst P (cc) here
last_or P [] x all here (suc k) y e = absurd (cc)
last_or P (first ∷ xs) x all here zero y e = all zero y e
last_or P (first ∷ xs) x all here (suc k) y e = last_or P xs x (λ k y e. all (suc k) y e) here k y e

-- a row with no key of one before it comes last
key_push : (same : Row → Row → Bool) (rows : List Row) (row : Row) → are_apart same rows ≡ true
    → list_any (λ earlier. same earlier row) rows ≡ false → are_apart same (rows ++ row ∷ []) ≡ true
key_push same [] row apart none = refl
key_push same (first ∷ rows) row apart none =
    let parts = and_parts (not (list_any (same first) rows)) (are_apart same rows) apart in
    let here = or_parts (same first row) (list_any (λ earlier. same earlier row) rows) none in
    let free : list_any (same first) (rows ++ row ∷ []) ≡ false =
    list_any-append (same first) rows (row ∷ [])
    ∙ or_from (list_any (same first) rows) (same first row || false) (not-true (list_any (same first) rows) parts.0)
    (or_from (same first row) false here.0 refl) in
    and_from (not (list_any (same first) (rows ++ row ∷ []))) (are_apart same (rows ++ row ∷ []))
    (not_from_false (list_any (same first) (rows ++ row ∷ [])) free) (key_push same rows row parts.1 here.1)

key_among : (columns : List Column) (rows : List Row) (cells : List Value)
    → list_any (λ earlier. has_key_of columns earlier (record { cells = cells })) rows
    ≡ list_any (pointwise same_value (key_of columns cells)) (map (λ row. key_of columns row.cells) rows)
key_among columns [] cells = refl
key_among columns (row ∷ rows) cells =
    ap (λ b. pointwise same_value (key_of columns cells) (key_of columns row.cells) || b) (key_among columns rows cells)

key_kept : (columns : List Column) (rows : List Row) (cells : List Value)
    → (not (has_keys columns) || are_apart (has_key_of columns) rows) ≡ true
    → repeats columns rows cells ≡ false
    → (not (has_keys columns) || are_apart (has_key_of columns) (rows ++ record { cells = cells } ∷ [])) ≡ true
key_kept columns rows cells apart once = by (has_keys columns) apart once
  where
    by : (b : Bool) → (not b || are_apart (has_key_of columns) rows) ≡ true
        → (b && list_any (pointwise same_value (key_of columns cells)) (map (λ row. key_of columns row.cells) rows))
        ≡ false
        → (not b || are_apart (has_key_of columns) (rows ++ record { cells = cells } ∷ [])) ≡ true
    by false apart once = refl
    by true apart once = key_push (has_key_of columns) rows (record { cells = cells }) apart
        (key_among columns rows cells ∙ once)

rows_kept : (Good : List Value → Type 0) (columns : List Column)
    → ((fields : Fields) (cells : List Value) → values_of columns fields ≡ Some cells → Good cells)
    → (number : ℕ) (earlier : List Row) (records : List Fields) (rows : List Row) → Rows Good columns earlier
    → rows_from columns number earlier records ≡ Ok rows
    → Rows Good columns rows × (length rows ≡ length earlier + length records)
rows_kept Good columns reads number earlier [] rows kept h =
    let same : earlier ≡ rows = cc in
    (subst (Rows Good columns) same kept, ap length (sym same) ∙ plus_none (length earlier))
  where
    plus_none : (n : ℕ) → n ≡ n + 0
    plus_none n = omega arith
rows_kept Good columns reads number earlier (fields ∷ records) rows kept h =
    by (length fields == length columns) (values_of columns fields) refl h
    (λ more k e. rows_kept Good columns reads (number + 1) more records rows k e)
  where
    counted : (row : Row) (n : ℕ) → n ≡ length (earlier ++ row ∷ []) + length records
        → n ≡ length earlier + suc (length records)
    counted row n e = omega (arith, e, length-append earlier (row ∷ []))

    once : (cells : List Value) (b : Bool) → repeats columns earlier cells ≡ b → Good cells
        → (if b then Err (DoubleKey number) else rows_from columns (number + 1)
        (earlier ++ record { cells = cells } ∷ []) records) ≡ Ok rows
        → ((more : List Row) → Rows Good columns more → rows_from columns (number + 1) more records ≡ Ok rows
        → Rows Good columns rows × (length rows ≡ length more + length records))
        → Rows Good columns rows × (length rows ≡ length earlier + suc (length records))
    once cells true is good e on = absurd (cc)
    once cells false is good e on =
        let row : Row = record { cells = cells } in
        let rest = on (earlier ++ row ∷ []) (record {
          good = last_or (λ r. Good r.cells) earlier row kept.good good;
          apart = key_kept columns earlier cells kept.apart is;
        }) e in
        (rest.0, counted row (length rows) rest.1)

    by : (b : Bool) (o : Option (List Value)) → values_of columns fields ≡ o
        → if_cells (if b then ok_or o (Cell number) else Err (Columns number)) (λ cells.
        if repeats columns earlier cells then Err (DoubleKey number)
        else rows_from columns (number + 1) (earlier ++ record { cells = cells } ∷ []) records) ≡ Ok rows
        → ((more : List Row) → Rows Good columns more → rows_from columns (number + 1) more records ≡ Ok rows
        → Rows Good columns rows × (length rows ≡ length more + length records))
        → Rows Good columns rows × (length rows ≡ length earlier + suc (length records))
    by false o is e on = absurd (cc)
    by true None is e on = absurd (cc)
    by true (Some cells) is e on = once cells (repeats columns earlier cells) refl (reads fields cells is) e on

-- all records but the first are rows
table_kept : (Good : List Value → Type 0) (columns : List Column)
    → ((fields : Fields) (cells : List Value) → values_of columns fields ≡ Some cells → Good cells)
    → (records : List Fields) (rows : List Row) → rows_of columns records ≡ Ok rows
    → Rows Good columns rows × (length rows ≤ 10_000)
table_kept Good columns reads [] rows h = absurd (cc)
table_kept Good columns reads (names ∷ records) rows h =
    by (nat_lt 10001 (suc (length records))) refl (are_names columns names) h
  where
    none_kept : Rows Good columns []
    none_kept = record { good = λ k row e. absurd (cc); apart = or_right (not (has_keys columns)) true refl }

    by : (b : Bool) → nat_lt 10001 (suc (length records)) ≡ b → (named : Bool)
        → (if b then Err TooManyRows else (if named then rows_from columns 2 [] records else Err (Columns 1))) ≡ Ok rows
        → Rows Good columns rows × (length rows ≤ 10_000)
    by true is named e = absurd (cc)
    by false is false e = absurd (cc)
    by false is true e =
        let kept = rows_kept Good columns reads 2 [] records rows none_kept e in
        let few = ltb-false 10001 (suc (length records)) is in
        (kept.0, omega (arith, kept.1, few))

-- each passes where each one does
from_each : {X : Type 0} (p : X → Bool) (xs : List X) → ((k : ℕ) (x : X) → slice_get xs k ≡ Some x → p x ≡ true)
    → list_all p xs ≡ true
from_each p [] h = refl
from_each p (x ∷ xs) h = and_from (p x) (list_all p xs) (h zero x refl) (from_each p xs (λ k y e. h (suc k) y e))

pub keeps_rows : (model : SeenModel) (t : ℕ) (table : Table) (records : List Fields) (rows : List Row)
    → KeepsIndices model → KeepsHeaders model
    → slice_get model.tables t ≡ Some table → rows_of (header_of model.texts model.characteristics table).columns
    records ≡ Ok rows
    → KeepsRows model table (header_of model.texts model.characteristics table).columns rows
keeps_rows model t table records rows indices headers at h =
    let columns = columns_of model.texts model.characteristics table.columns in
    let inside : list_all (λ c. nat_lt c.characteristic (length model.characteristics)) table.columns ≡ true =
    passes_at (λ table. list_all (λ c. nat_lt c.characteristic (length model.characteristics)) table.columns)
    model.tables t table indices.columns at in
    let kept = table_kept (λ cells. are_cells model table.columns cells ≡ true) columns
    (λ fields cells e. cells_kept model headers table.columns fields cells inside e) records rows h in
    record {
      cells = from_each (λ row. are_cells model table.columns row.cells) rows kept.0.good;
      few = le-leb (length rows) 10_000 kept.1;
      keys = kept.0.apart;
      planned_keys =
          planned_apart model table columns rows (header_keys model.texts model.characteristics table.columns inside)
          (from_each (λ row. are_cells model table.columns row.cells) rows kept.0.good) kept.0.apart;
    }
