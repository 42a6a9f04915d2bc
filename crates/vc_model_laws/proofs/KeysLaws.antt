-- Rows none of which has the key of one before it are apart by their keys, as a plan has them.
use Rattle.std.proofs.Common.{◌≡◌, ℕ, zero, suc, ◌+◌, ◌<◌, ◌≤◌, Bool, true, false, cond, not, ◌||◌, ◌⊎◌, inl, inr}
use Rattle.std.proofs.Common.{nat_lt, List, [], ◌∷◌, length, map, if◌then◌else◌, refl, sym, ap}
use Rattle.std.proofs.Common.{◌∙◌, arith}
use Rattle.std.specs.Prelude.{◌==◌, option_map, slice_get}
use Rattle.std.specs.List.{cons_option, filter, list_all, list_any, range_with_len}
use Rattle.std.specs.Cmp.Lexicographic.{pointwise}
use Rattle.std.proofs.lemmas.Bool.{and_parts, and_from, or_parts, or_from, or_left, or_right, not-true, not_from_false}
use Rattle.std.proofs.lemmas.Bool.{false_from_ne_true, eqb-true, eq-eqb}
use Rattle.std.proofs.lemmas.Bool.Decides.{Decides-int_eq}
use Rattle.vc_value.specs.declared.table_header.Column.{Column}
use Rattle.vc_value.specs.declared.value.Value.{Value}
use Rattle.vc_value.specs.declared.value.Value.TheVariants.{Text, Num}
use Rattle.vc_table.specs.declared.table.Row.{Row}
use Rattle.vc_table.specs.Tables.{has_keys, key_of, same_value}
use Rattle.vc_model_parts.specs.Headers.{column_from, columns_of}
use Rattle.vc_model_parts.specs.declared.parts.Characteristic.{Characteristic}
use Rattle.vc_model_parts.specs.declared.parts.Table.{Table}
use Rattle.vc_model_parts.specs.declared.parts.TableColumn.{TableColumn}
use Rattle.vc_model_drafts.specs.Seen.{SeenModel}
use Rattle.vc_plan.specs.declared.plans.TableColumn as plans
use Rattle.vc_plan.specs.LookUps.{is_key_column, is_key, keys_of, same_cell, rows_agree, keys_apart}
use Rattle.vc_plan.specs.Orders.{are_apart}
use Rattle.vc_plan.specs.Pieces as pieces
use Rattle.vc_model_laws.specs.Rows.{are_cells, has_key_of, planned}
use Rattle.vc_model_laws.proofs.HeadersLaws.{there}

-- what all numbers of a range that pass a test have
agree_at : (K S : ℕ → Bool) (s n : ℕ) → list_all S (filter K (range_with_len s n)) ≡ true → (c : ℕ) → s ≤ c → c < s + n
    → K c ≡ true → S c ≡ true
agree_at K S s zero h c from below k = absurd (omega (arith, from, below))
agree_at K S s (suc n) h c from below k =
    by (K s) refl h (λ rest from. agree_at K S (s + 1) n rest c from (omega (arith, below)) k) (least s c from)
  where
    least : (m n : ℕ) → m ≤ n → (m ≡ n) ⊎ (m + 1 ≤ n)
    least m n h = grind arith

    by : (b : Bool) → K s ≡ b → list_all S (cond b (s ∷ filter K (range_with_len (s + 1) n))
        (filter K (range_with_len (s + 1) n))) ≡ true
        → (list_all S (filter K (range_with_len (s + 1) n)) ≡ true → s + 1 ≤ c → S c ≡ true) → (s ≡ c) ⊎ (s + 1 ≤ c)
        → S c ≡ true
    by true is h on (inl same) = ap S (sym same)
        ∙ (and_parts (S s) (list_all S (filter K (range_with_len (s + 1) n))) h).0
    by true is h on (inr later) = on (and_parts (S s) (list_all S (filter K (range_with_len (s + 1) n))) h).1 later
    by false is h on (inl same) = absurd (let no = ap K (sym same) ∙ is in cc)
    by false is h on (inr later) = on h later

none_pass : (K : ℕ → Bool) (s n : ℕ) → ((c : ℕ) → K c ≡ false) → filter K (range_with_len s n) ≡ []
none_pass K s zero h = refl
none_pass K s (suc n) h = ap (λ b. cond b (s ∷ filter K (range_with_len (s + 1) n))
    (filter K (range_with_len (s + 1) n))) (h s) ∙ none_pass K (s + 1) n h

-- the columns of a header have the keys of a table's
pub header_keys : (texts : List (List ℕ)) (characteristics : List Characteristic) (columns : List TableColumn)
    → list_all (λ c. nat_lt c.characteristic (length characteristics)) columns ≡ true
    → map (λ c. c.key) (columns_of texts characteristics columns) ≡ map (λ c. c.key) columns
header_keys texts characteristics [] h = refl
header_keys texts characteristics (column ∷ columns) h =
    let parts = and_parts (nat_lt column.characteristic (length characteristics))
    (list_all (λ c. nat_lt c.characteristic (length characteristics)) columns) h in
    let found = there characteristics column.characteristic parts.0 in
    ap (λ o. map (λ c. c.key) (cons_option (option_map (column_from texts column.key) o)
    (columns_of texts characteristics columns))) found.1
    ∙ ap (λ ks. column.key ∷ ks) (header_keys texts characteristics columns parts.1)

-- cells that agree for a plan do so for a table
same_turned : (a b : Value) → pieces.same_value a b ≡ true → same_value b a ≡ true
same_turned (Text s) (Text t) h = eq-eqb t s (sym (eqb-true s t h))
same_turned (Text s) (Num b) h = absurd (cc)
same_turned (Num a) (Text t) h = absurd (cc)
same_turned (Num a) (Num b) h = (Decides-int_eq b.millionths a.millionths).1
    (sym ((Decides-int_eq a.millionths b.millionths).0 h))

-- the columns as a plan has them
abbrev turned : TableColumn → plans.TableColumn
turned column = record { characteristic = column.characteristic; key = column.key }

keys_agree : (model : SeenModel) (columns : List TableColumn) (header : List Column) (a b : List Value)
    → map (λ c. c.key) header ≡ map (λ c. c.key) columns → are_cells model columns a ≡ true
    → are_cells model columns b ≡ true
    → ((c : ℕ) → is_key_column (slice_get (map turned columns) c) ≡ true
    → same_cell (slice_get a c) (slice_get b c) ≡ true)
    → pointwise same_value (key_of header b) (key_of header a) ≡ true
keys_agree model [] [] a b flags ca cb h = refl
keys_agree model [] (head ∷ header) a b flags ca cb h = absurd (cc)
keys_agree model (column ∷ columns) [] a b flags ca cb h = absurd (cc)
keys_agree model (column ∷ columns) (head ∷ header) [] b flags ca cb h = absurd (cc)
keys_agree model (column ∷ columns) (head ∷ header) (x ∷ a) [] flags ca cb h = absurd (cc)
keys_agree model (column ∷ columns) (head ∷ header) (x ∷ a) (y ∷ b) flags ca cb h =
    by head.key key.0 (keys_agree model columns header a b key.1 (and_parts _ (are_cells model columns a) ca).1
    (and_parts _ (are_cells model columns b) cb).1 (λ c k. h (suc c) k))
  where
    first : (p q : Bool) (ps qs : List Bool) → p ∷ ps ≡ q ∷ qs → (p ≡ q) × (ps ≡ qs)
    first p q ps qs e = (cc, cc)

    key : (head.key ≡ column.key) × (map (λ c. c.key) header ≡ map (λ c. c.key) columns)
    key = first head.key column.key (map (λ c. c.key) header) (map (λ c. c.key) columns) flags

    by : (k : Bool) → k ≡ column.key → pointwise same_value (key_of header b) (key_of header a) ≡ true
        → pointwise same_value (if k then y ∷ key_of header b else key_of header b)
        (if k then x ∷ key_of header a else key_of header a) ≡ true
    by true is rest =
        and_from (same_value y x) (pointwise same_value (key_of header b) (key_of header a))
        (same_turned x y (h zero (sym is))) rest
    by false is rest = rest

-- no key at all
no_key : (columns : List TableColumn) → list_any (λ c. c.key) columns ≡ false → (c : ℕ)
    → is_key_column (slice_get (map turned columns) c) ≡ false
no_key [] h c = refl
no_key (column ∷ columns) h zero = (or_parts column.key (list_any (λ c. c.key) columns) h).0
no_key (column ∷ columns) h (suc c) = no_key columns (or_parts column.key (list_any (λ c. c.key) columns) h).1 c

any_flag : {X : Type 0} (key : X → Bool) (xs : List X) → list_any key xs ≡ list_any (λ k. k) (map key xs)
any_flag key [] = refl
any_flag key (x ∷ xs) = ap (λ b. key x || b) (any_flag key xs)

-- rows that are apart
apart_rows : (Good : List Value → Bool) (same : Row → Row → Bool) (agree : List Value → List Value → Bool)
    (rows : List Row)
    → ((a b : Row) → Good a.cells ≡ true → Good b.cells ≡ true → agree a.cells b.cells ≡ true → same a b ≡ true)
    → list_all (λ row. Good row.cells) rows ≡ true → are_apart same rows ≡ true
    → are_apart agree (map (λ row. row.cells) rows) ≡ true
apart_rows Good same agree [] told good apart = refl
apart_rows Good same agree (first ∷ rows) told good apart =
    let parts = and_parts (not (list_any (same first) rows)) (are_apart same rows) apart in
    let goods = and_parts (Good first.cells) (list_all (λ row. Good row.cells) rows) good in
    and_from (not (list_any (agree first.cells) (map (λ row. row.cells) rows)))
    (are_apart agree (map (λ row. row.cells) rows))
    (not_from_false (list_any (agree first.cells) (map (λ row. row.cells) rows))
    (none_agree rows goods.0 goods.1 (not-true (list_any (same first) rows) parts.0)))
    (apart_rows Good same agree rows told goods.1 parts.1)
  where
    none_agree : (others : List Row) → Good first.cells ≡ true → list_all (λ row. Good row.cells) others ≡ true
        → list_any (same first) others ≡ false → list_any (agree first.cells) (map (λ row. row.cells) others) ≡ false
    none_agree [] g gs none = refl
    none_agree (other ∷ others) g gs none =
        let here = or_parts (same first other) (list_any (same first) others) none in
        let goods = and_parts (Good other.cells) (list_all (λ row. Good row.cells) others) gs in
        or_from (agree first.cells other.cells) (list_any (agree first.cells) (map (λ row. row.cells) others))
        (false_from_ne_true (agree first.cells other.cells)
        (λ e. let yes = told first other g goods.0 e in let no = here.0 in cc))
        (none_agree others g goods.1 here.1)

pub planned_apart : (model : SeenModel) (table : Table) (header : List Column) (rows : List Row)
    → map (λ c. c.key) header ≡ map (λ c. c.key) table.columns
    → list_all (λ row. are_cells model table.columns row.cells) rows ≡ true
    → (not (has_keys header) || are_apart (has_key_of header) rows) ≡ true → keys_apart (planned table rows) ≡ true
planned_apart model table header rows flags cells apart = by (has_keys header) refl apart
  where
    keys : List ℕ
    keys = keys_of (planned table rows)

    flagged : has_keys header ≡ list_any (λ c. c.key) table.columns
    flagged = any_flag (λ c. c.key) header ∙ ap (list_any (λ k. k)) flags ∙ sym (any_flag (λ c. c.key) table.columns)

    told : (a b : Row) → are_cells model table.columns a.cells ≡ true → are_cells model table.columns b.cells ≡ true
        → rows_agree keys a.cells b.cells ≡ true → has_key_of header a b ≡ true
    told a b ca cb h =
        keys_agree model table.columns header a.cells b.cells flags ca cb
        (λ c k. agree_at (is_key (planned table rows)) (λ c. same_cell (slice_get a.cells c) (slice_get b.cells c)) 0
        (length (map turned table.columns)) h c (zero_least c) (key_inside (map turned table.columns) c k) k)
      where
        zero_least : (n : ℕ) → 0 ≤ n
        zero_least n = omega arith

        key_inside : (columns : List plans.TableColumn) (c : ℕ) → is_key_column (slice_get columns c) ≡ true
            → c < 0 + length columns
        key_inside [] c k = absurd (cc)
        key_inside (column ∷ columns) zero k = omega arith
        key_inside (column ∷ columns) (suc c) k = let rest = key_inside columns c k in omega (arith, rest)

    by : (b : Bool) → has_keys header ≡ b → (not b || are_apart (has_key_of header) rows) ≡ true
        → ((length keys == 0) || are_apart (rows_agree keys) (map (λ row. row.cells) rows)) ≡ true
    by true is apart =
        or_right (length keys == 0) (are_apart (rows_agree keys) (map (λ row. row.cells) rows))
        (apart_rows (are_cells model table.columns) (has_key_of header) (rows_agree keys) rows told cells apart)
    by false is apart =
        or_left (length keys == 0) (are_apart (rows_agree keys) (map (λ row. row.cells) rows))
        (ap (λ ks. length ks == 0) (none_pass (is_key (planned table rows)) 0 (length (map turned table.columns))
        (no_key table.columns (sym flagged ∙ is))))
