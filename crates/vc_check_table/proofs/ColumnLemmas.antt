-- Lists of columns and rows that pass a test, asked one after the other.
use Rattle.std.proofs.Common.{◌≡◌, ℕ, Bool, true, false, cond, not, ◌&&◌, ◌||◌, List, [], ◌∷◌, refl, sym, ◌∙◌, ap}
use Rattle.std.specs.Prelude.{find, slice_get, None, Some}
use Rattle.std.specs.List.{filter, list_all}
use Rattle.vc_value.specs.declared.value.Value.{Value}
use Rattle.vc_plan.specs.declared.plans.Plan.{Plan}
use Rattle.vc_plan.specs.declared.rules.Binding.{Binding}
use Rattle.vc_plan.specs.Domains.{grains_of, is_grain_with}
use Rattle.vc_plan.specs.Pieces.{lies_in, lies_in_some, same_value}
use Rattle.vc_plan.specs.Seen.{Seen}
use Rattle.vc_plan.specs.TableRows.{agreed, cell_passes, columns_of, first_cell, has_cell, has_grain, is_column_of}
use Rattle.vc_plan.specs.TableRows.{is_possible, is_possible_in, other_columns, value_if}
use Rattle.vc_check_table.specs.Columns.{agrees, fits_elsewhere, has_own_cell, has_own_grain}
use Rattle.vc_check_table.specs.Columns.{possible_elsewhere}

all_but : {X : Type 0} (q p : X → Bool) (xs : List X)
    → list_all p (filter (λ x. not (q x)) xs) ≡ list_all (λ x. q x || p x) xs
all_but q p [] = refl
all_but q p (x ∷ xs) = by (q x) (all_but q p xs)
  where
    by : (b : Bool) → list_all p (filter (λ y. not (q y)) xs) ≡ list_all (λ y. q y || p y) xs
        → list_all p (cond (not b) (x ∷ filter (λ y. not (q y)) xs) (filter (λ y. not (q y)) xs))
        ≡ ((b || p x) && list_all (λ y. q y || p y) xs)
    by true e = e
    by false e = ap (λ c. p x && c) e

all_own : {X : Type 0} (q p : X → Bool) (xs : List X)
    → list_all p (filter q xs) ≡ list_all (λ x. not (q x) || p x) xs
all_own q p [] = refl
all_own q p (x ∷ xs) = by (q x) (all_own q p xs)
  where
    by : (b : Bool) → list_all p (filter q xs) ≡ list_all (λ y. not (q y) || p y) xs
        → list_all p (cond b (x ∷ filter q xs) (filter q xs))
        ≡ ((not b || p x) && list_all (λ y. not (q y) || p y) xs)
    by true e = ap (λ c. p x && c) e
    by false e = e

or_none : (b : Bool) → (b || false) ≡ b
or_none true = refl
or_none false = refl

or_all : (b : Bool) → (b || true) ≡ true
or_all true = refl
or_all false = refl

all_that : {X : Type 0} (q p : X → Bool) (xs : List X)
    → list_all p (filter q xs) ≡ list_all (λ x. p x || not (q x)) xs
all_that q p [] = refl
all_that q p (x ∷ xs) = by (q x) (p x) (all_that q p xs)
  where
    by : (b c : Bool) → list_all p (filter q xs) ≡ list_all (λ y. p y || not (q y)) xs
        → list_all p (cond b (x ∷ filter q xs) (filter q xs))
        ≡ ((p x || not b) && list_all (λ y. p y || not (q y)) xs)
    by true c e = ap (λ d. p x && d) e ∙ ap (λ d. d && list_all (λ y. p y || not (q y)) xs) (sym (or_none (p x)))
    by false c e = e ∙ ap (λ d. d && list_all (λ y. p y || not (q y)) xs) (sym (or_all (p x)))

pub others_all : (plan : Plan) (seen : Seen) (v : ℕ) (columns : List Binding) (row : List Value)
    → is_possible_in plan seen (other_columns v columns) row ≡ list_all (fits_elsewhere plan seen v row) columns
others_all plan seen v columns row = all_but (is_column_of v) (is_possible plan seen row) columns

pub own_grains : (plan : Plan) (v g : ℕ) (columns : List Binding) (row : List Value)
    → has_grain plan v (columns_of v columns) g row ≡ list_all (has_own_grain plan v g row) columns
own_grains plan v g columns row =
    all_own (is_column_of v)
    (λ column. cell_passes (λ a. is_grain_with plan v (lies_in a) g) (slice_get row column.column)) columns

pub own_cells : (v : ℕ) (a : Value) (columns : List Binding) (row : List Value)
    → has_cell (columns_of v columns) a row ≡ list_all (has_own_cell v a row) columns
own_cells v a columns row =
    all_own (is_column_of v) (λ column. cell_passes (same_value a) (slice_get row column.column)) columns

pub all_agree : (plan : Plan) (seen : Seen) (v : ℕ) (columns : List Binding) (a : Value) (rows : List (List Value))
    → list_all (has_cell (columns_of v columns) a) (filter (possible_elsewhere plan seen v columns) rows)
    ≡ list_all (agrees plan seen v columns a) rows
all_agree plan seen v columns a rows =
    all_that (possible_elsewhere plan seen v columns) (has_cell (columns_of v columns) a) rows

-- what all rows agree on is a cell of the first of them
module _ (plan : Plan) (v : ℕ) (own : List Binding) (q : List Value → Bool) where
  pub agreed_none : (rows : List (List Value)) → find q rows ≡ None → agreed plan v own (filter q rows) ≡ []
  agreed_none [] e = refl
  agreed_none (row ∷ rows) e = by (q row) e (λ f. agreed_none rows f)
    where
      by : (b : Bool) → cond b (Some row) (find q rows) ≡ None
          → (find q rows ≡ None → agreed plan v own (filter q rows) ≡ [])
          → agreed plan v own (cond b (row ∷ filter q rows) (filter q rows)) ≡ []
      by true f later = absurd (cc)
      by false f later = later f

  pub agreed_first : (rows : List (List Value)) (first : List Value) → find q rows ≡ Some first
      → agreed plan v own (filter q rows)
      ≡ value_if (λ a. list_all (has_cell own a) (filter q rows) && lies_in_some (grains_of plan v) a) v
      (first_cell own first)
  agreed_first [] first e = absurd (cc)
  agreed_first (row ∷ rows) first e = by (q row) e (λ f. agreed_first rows first f)
    where
      by : (b : Bool) → cond b (Some row) (find q rows) ≡ Some first
          → (find q rows ≡ Some first → agreed plan v own (filter q rows)
          ≡ value_if (λ a. list_all (has_cell own a) (filter q rows) && lies_in_some (grains_of plan v) a) v
          (first_cell own first))
          → agreed plan v own (cond b (row ∷ filter q rows) (filter q rows))
          ≡ value_if (λ a. list_all (has_cell own a) (cond b (row ∷ filter q rows) (filter q rows))
          && lies_in_some (grains_of plan v) a) v
          (first_cell own first)
      by true f later =
          let same : row ≡ first = cc in
          ap (λ r. value_if (λ a. list_all (has_cell own a) (row ∷ filter q rows) && lies_in_some (grains_of plan v) a)
          v (first_cell own r)) same
      by false f later = later f
