-- The numbers of a table's rows in the order of their cells in columns.
use Rattle.std.specs.Prelude.{ℕ, Bool, true, false, ◌&&◌, ◌==◌, List, [], ◌∷◌, length, map, slice_get, Option, None}
use Rattle.std.specs.Prelude.{Some, IsPermutation, IsSorted}
use Rattle.std.specs.Ordering.{nat_cmp, ordering_then}
use Rattle.std.specs.declared.cmp.Ordering.{Ordering}
use Rattle.vc_value.specs.declared.value.Value.{Value}
use Rattle.vc_plan.specs.declared.procedures.KeyTerm.{KeyTerm}
use Rattle.vc_plan.specs.Domains.{numbers_below}
use Rattle.vc_proc_look_ups.specs.declared.orders.Order.{Order}
use Rattle.vc_proc_look_ups.specs.Ranks.{rows_compared}

-- a row, if it is there; else one without cells
abbrev pub row_in : Option (List Value) → List Value
row_in None = []
row_in (Some row) = row

-- the numbers of rows: by the rows, and where these are the same by themselves
abbrev pub numbers_compared : List (List Value) → List ℕ → ℕ → ℕ → Ordering
numbers_compared rows columns m n =
    ordering_then (rows_compared columns (row_in (slice_get rows m)) (row_in (slice_get rows n))) (nat_cmp m n)

-- all rows by their numbers, none before one that comes before it
pub record IsOrderOf (rows : List (List Value)) (columns order : List ℕ) : Type 0 where
  pub all : IsPermutation (numbers_below (length rows)) order
  pub ascends : IsSorted (numbers_compared rows columns) order

-- the columns of keys, and whether they are these
abbrev pub columns_of : List KeyTerm → List ℕ
columns_of keys = map (λ key. key.column) keys

abbrev pub are_columns_of : List ℕ → List KeyTerm → Bool
are_columns_of [] [] = true
are_columns_of [] (key ∷ keys) = false
are_columns_of (c ∷ columns) [] = false
are_columns_of (c ∷ columns) (key ∷ keys) = (c == key.column) && are_columns_of columns keys

-- whether it is an order of the table by the keys
abbrev pub is_for : ℕ → List KeyTerm → Order → Bool
is_for table keys order = (order.table == table) && are_columns_of order.columns keys
