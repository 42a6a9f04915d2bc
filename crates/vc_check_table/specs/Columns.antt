-- What is asked of each column, row, grain and variable of a table call.
use Rattle.std.specs.Prelude.{ℕ, Bool, false, not, ◌&&◌, ◌||◌, ◌==◌, nat_lt, List, slice_get}
use Rattle.std.specs.List.{filter, list_all, list_any}
use Rattle.vc_base.specs.Rounds.{atoms_of}
use Rattle.vc_base.specs.Sets.{has}
use Rattle.vc_value.specs.declared.value.Value.{Value}
use Rattle.vc_plan.specs.declared.atoms.Atom.{Atom}
use Rattle.vc_plan.specs.declared.atoms.Atom.TheVariants.{Here, Out, Is}
use Rattle.vc_plan.specs.declared.plans.Plan.{Plan}
use Rattle.vc_plan.specs.declared.rules.Binding.{Binding}
use Rattle.vc_plan.specs.Domains.{count_of, grains_of, is_grain_with}
use Rattle.vc_plan.specs.Pieces.{lies_in, lies_in_some, same_value}
use Rattle.vc_plan.specs.Seen.{Seen, same_atom}
use Rattle.vc_plan.specs.TableRows.{cell_passes, columns_of, for_variable, has_cell, has_grain, is_column_of}
use Rattle.vc_plan.specs.TableRows.{is_possible, is_possible_in, other_columns}
use Rattle.vc_check_gives.specs.Parts.{all_said}

-- of a column: it is the variable's, or possible; it isn't the variable's, or its cell lies in the grain, or is the
-- value
abbrev pub fits_elsewhere : Plan → Seen → ℕ → List Value → Binding → Bool
fits_elsewhere plan seen v row column = is_column_of v column || is_possible plan seen row column

abbrev pub has_own_grain : Plan → ℕ → ℕ → List Value → Binding → Bool
has_own_grain plan v g row column =
    not (is_column_of v column)
    || cell_passes (λ a. is_grain_with plan v (lies_in a) g) (slice_get row column.column)

abbrev pub has_own_cell : ℕ → Value → List Value → Binding → Bool
has_own_cell v a row column =
    not (is_column_of v column) || cell_passes (same_value a) (slice_get row column.column)

-- of a row: it is possible in the columns that aren't the variable's, and has the grain, or the value
abbrev pub possible_elsewhere : Plan → Seen → ℕ → List Binding → List Value → Bool
possible_elsewhere plan seen v columns row = is_possible_in plan seen (other_columns v columns) row

abbrev pub row_keeps : Plan → Seen → ℕ → List Binding → ℕ → List Value → Bool
row_keeps plan seen v columns g row =
    has_grain plan v (columns_of v columns) g row && possible_elsewhere plan seen v columns row

abbrev pub agrees : Plan → Seen → ℕ → List Binding → Value → List Value → Bool
agrees plan seen v columns a row =
    has_cell (columns_of v columns) a row || not (possible_elsewhere plan seen v columns row)

-- of a grain: some row keeps it
abbrev pub keeps : Plan → Seen → ℕ → List Binding → List (List Value) → ℕ → Bool
keeps plan seen v columns rows g = list_any (row_keeps plan seen v columns g) rows

abbrev pub is_dropped : Plan → Seen → ℕ → List Binding → List (List Value) → ℕ → Bool
is_dropped plan seen v columns rows g = nat_lt g (count_of plan v) && not (keeps plan seen v columns rows g)

abbrev pub kept_or_out : Plan → Seen → ℕ → List Binding → List (List Value) → ℕ → Bool
kept_or_out plan seen v columns rows g = seen.out v g || keeps plan seen v columns rows g

-- of an atom: it is that such a grain is out
abbrev pub puts_out : Plan → Seen → ℕ → List Binding → List (List Value) → Atom → Bool
puts_out plan seen v columns rows (Here i) = false
puts_out plan seen v columns rows (Out w g) = (w == v) && is_dropped plan seen v columns rows g
puts_out plan seen v columns rows (Is w a) = false

-- of a value: all rows have it that are possible elsewhere, and it is in the variable's list
abbrev pub agreed_if : Plan → Seen → ℕ → List Binding → List (List Value) → Value → Bool
agreed_if plan seen v columns rows a =
    list_all (has_cell (columns_of v columns) a) (filter (possible_elsewhere plan seen v columns) rows)
    && lies_in_some (grains_of plan v) a

-- of an inferred variable: a column is given to it, and what follows for it has the atom; or none is, or all that
-- follows is said
abbrev pub gives_narrowed : Plan → Seen → ℕ → List Binding → Atom → ℕ → Bool
gives_narrowed plan seen table columns atom v =
    list_any (is_column_of v) columns
    && has same_atom (atoms_of (for_variable plan seen table columns v)) atom

abbrev pub says_narrowed : Plan → Seen → ℕ → List Binding → ℕ → Bool
says_narrowed plan seen table columns v =
    not (list_any (is_column_of v) columns) || all_said seen (for_variable plan seen table columns v)
