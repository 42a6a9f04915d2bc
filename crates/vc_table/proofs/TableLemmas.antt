-- Columns, fields and records, taken one by one.
use Rattle.std.proofs.Common.{◌≡◌, ℕ, zero, suc, ◌+◌, ◌<◌, Bool, true, false, ◌&&◌, ◌||◌, List, [], ◌∷◌, ◌++◌, length}
use Rattle.std.proofs.Common.{get_or, drop, map, refl, sym, ap, ◌∙◌, arith, append_assoc, Option, Some, None, Result}
use Rattle.std.proofs.Common.{Ok, Err, if◌then◌else◌}
use Rattle.std.specs.Option.{option_map, option_and_then}
use Rattle.std.specs.List.{list_any}
use Rattle.std.specs.Cmp.Lexicographic.{pointwise}
use Rattle.csv.specs.Records.{field_at}
use Rattle.vc_value.specs.Words.{same_ignoring_case}
use Rattle.vc_value.specs.declared.table_header.Column.{Column}
use Rattle.vc_value.specs.declared.value.Value.{Value}
use Rattle.vc_table.specs.Records.{Fields}
use Rattle.vc_table.specs.Tables.{value_of, values_of, are_names, same_value, is_among, cells_of, if_cells, repeats}
use Rattle.vc_table.specs.Tables.{rows_from}
use Rattle.vc_table.specs.declared.table.Row.{Row}
use Rattle.vc_table.specs.declared.table.TableFault.{TableFault}
use Rattle.vc_table.specs.declared.table.TableFault.TheVariants.{DoubleKey}

pub drop_at : {X : Type 0} (xs : List X) (i : ℕ) (x : X) → i < length xs → x ≡ get_or xs i x
    → drop i xs ≡ x ∷ drop (i + 1) xs
drop_at [] i x inside is = absurd (omega arith)
drop_at (y ∷ ys) zero x inside is = ap (λ z. z ∷ ys) (sym is)
drop_at (y ∷ ys) (suc i) x inside is = let next : suc i + 1
    ≡ suc (i + 1) = omega arith in drop_at ys i x (omega arith) is ∙ ap (λ n. x ∷ drop n (y ∷ ys)) (sym next)

pub field_drop : (fields : Fields) (i : ℕ) (field : List ℕ) → field_at fields i ≡ Some field
    → drop i fields ≡ field ∷ drop (i + 1) fields
unfolding field_at
field_drop [] i field is = absurd (cc is)
field_drop (f ∷ fs) zero field is = let same : f ≡ field = cc is in ap (λ g. g ∷ fs) same
field_drop (f ∷ fs) (suc i) field is = let next : suc i + 1
    ≡ suc (i + 1) = omega arith in field_drop fs i field is ∙ ap (λ n. field ∷ drop n (f ∷ fs)) (sym next)

pub field_none : (fields : Fields) (i : ℕ) → field_at fields i ≡ None → drop i fields ≡ []
unfolding field_at
field_none [] zero is = refl
field_none [] (suc i) is = refl
field_none (f ∷ fs) zero is = absurd (cc is)
field_none (f ∷ fs) (suc i) is = field_none fs i is

pub names_step : (columns rest : List Column) (fields more : Fields) (column : Column) (field : List ℕ)
    → columns ≡ column ∷ rest → fields ≡ field ∷ more
    → are_names columns fields ≡ (same_ignoring_case column.name field && are_names rest more)
names_step columns rest fields more column field first second = rw (first, second) refl

pub names_none : (columns rest : List Column) (fields : Fields) (column : Column) → columns ≡ column ∷ rest
    → fields ≡ [] → are_names columns fields ≡ false
names_none columns rest fields column first second = rw (first, second) refl

pub values_step : (columns rest : List Column) (fields more : Fields) (column : Column) (field : List ℕ)
    → columns ≡ column ∷ rest → fields ≡ field ∷ more
    → values_of columns fields
    ≡ option_and_then (λ value. option_map (λ values. value ∷ values) (values_of rest more)) (value_of column field)
values_step columns rest fields more column field first second = rw (first, second) refl

pub values_none : (columns rest : List Column) (fields : Fields) (column : Column) → columns ≡ column ∷ rest
    → fields ≡ [] → values_of columns fields ≡ None
values_none columns rest fields column first second = rw (first, second) refl

-- values found so far, one more, and those to come
pub values_more : (found : List Value) (value : Value) (more : Option (List Value))
    → option_map (λ rest. found ++ rest) (option_map (λ rest. value ∷ rest) more)
    ≡ option_map (λ rest. (found ++ value ∷ []) ++ rest) more
values_more found value None = refl
values_more found value (Some rest) = ap Some (sym (append_assoc found (value ∷ []) rest))

-- what follows the cells of a record
abbrev pub after : List Column → ℕ → List Row → List Fields → List Value → Result (List Row) TableFault
after columns number earlier rest cells = if repeats columns earlier cells
    then Err (DoubleKey number) else rows_from columns (number + 1) (earlier ++ (record { cells = cells }) ∷ []) rest

pub rows_fault : (columns : List Column) (number : ℕ) (earlier : List Row) (records rest : List Fields)
    (fields : Fields) (fault : TableFault)
    → records ≡ fields ∷ rest → cells_of columns number fields ≡ Err fault
    → rows_from columns number earlier records ≡ Err fault
rows_fault columns number earlier records rest fields fault first faulty =
    rw first (ap (λ r. if_cells r (after columns number earlier rest)) faulty)

pub rows_double : (columns : List Column) (number : ℕ) (earlier : List Row) (records rest : List Fields)
    (fields : Fields) (cells : List Value)
    → records ≡ fields ∷ rest → cells_of columns number fields ≡ Ok cells → repeats columns earlier cells ≡ true
    → rows_from columns number earlier records ≡ Err (DoubleKey number)
rows_double columns number earlier records rest fields cells first read again =
    rw first (ap (λ r. if_cells r (after columns number earlier rest)) read
    ∙ ap (λ b. if b then Err (DoubleKey number)
    else rows_from columns (number + 1) (earlier ++ (record { cells = cells }) ∷ []) rest) again)

pub rows_more : (columns : List Column) (number : ℕ) (earlier : List Row) (records rest : List Fields) (fields : Fields)
    (cells : List Value)
    → records ≡ fields ∷ rest → cells_of columns number fields ≡ Ok cells → repeats columns earlier cells ≡ false
    → rows_from columns number earlier records
    ≡ rows_from columns (number + 1) (earlier ++ (record { cells = cells }) ∷ []) rest
rows_more columns number earlier records rest fields cells first read fresh =
    rw first (ap (λ r. if_cells r (after columns number earlier rest)) read
    ∙ ap (λ b. if b then Err (DoubleKey number)
    else rows_from columns (number + 1) (earlier ++ (record { cells = cells }) ∷ []) rest) fresh)

pointwise_same : (first second : Value → Value → Bool) → ((a b : Value) → first a b ≡ second a b) → (xs ys : List Value)
    → pointwise first xs ys ≡ pointwise second xs ys
pointwise_same first second same [] [] = refl
pointwise_same first second same [] (y ∷ ys) = refl
pointwise_same first second same (x ∷ xs) [] = refl
pointwise_same first second same (x ∷ xs) (y ∷ ys) = ap (λ b. b && pointwise first xs ys) (same x y)
    ∙ ap (λ b. second x y && b) (pointwise_same first second same xs ys)

-- a key is found among vectors where it is found among their lists
pub among_lists : {K : Type 0} (items : K → List Value) (equal : Value → Value → Bool)
    → ((a b : Value) → equal a b ≡ same_value a b) → (key : List Value) (keys : List K)
    → list_any (λ other. pointwise equal key (items other)) keys ≡ is_among key (map items keys)
among_lists items equal same key [] = refl
among_lists items equal same key (k ∷ ks) =
    ap (λ b. b || list_any (λ other. pointwise equal key (items other)) ks)
    (pointwise_same equal same_value same key (items k))
    ∙ ap (λ b. pointwise same_value key (items k) || b) (among_lists items equal same key ks)
