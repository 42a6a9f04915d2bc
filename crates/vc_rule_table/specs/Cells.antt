-- The grains of a variable that a cell lies in, by the list of its grains.
use Rattle.std.specs.Prelude.{ℕ, ◌^◌, ◌<◌, Bool, false, not, ◌&&◌, List, map, length, slice_get, Option, None, Some}
use Rattle.std.specs.List.{filter, list_any, list_all}
use Rattle.vc_value.specs.declared.value.Value.{Value}
use Rattle.vc_plan.specs.declared.atoms.Atom.{Atom}
use Rattle.vc_plan.specs.declared.atoms.Atom.TheVariants.{Out}
use Rattle.vc_plan.specs.declared.conditions.Piece.{Piece}
use Rattle.vc_plan.specs.declared.plans.Plan.{Plan}
use Rattle.vc_plan.specs.declared.rules.Binding.{Binding}
use Rattle.vc_plan.specs.Domains.{numbers_below, grains_of, count_of, passes}
use Rattle.vc_plan.specs.Pieces.{lies_in, lies_in_some}
use Rattle.vc_plan.specs.Seen.{Seen}
use Rattle.vc_plan.specs.TableRows.{is_column_of, has_grain, has_cell}

-- a number of 32 bits tells each grain of a variable
abbrev pub FewGrains : Plan → Type 0
FewGrains plan = (v : ℕ) → count_of plan v < 2 ^ 32

-- whether there is a grain of this number that holds the value
abbrev pub grain_holds : List Piece → Value → ℕ → Bool
grain_holds grains a g = passes (lies_in a) (slice_get grains g)

-- whether the grain is left where the variable has this value, or none
abbrev pub left_among : List Piece → Seen → ℕ → Option Value → ℕ → Bool
left_among grains seen v None g = not (seen.out v g)
left_among grains seen v (Some b) g = grain_holds grains b g

-- whether the grain holds the value and is left, and whether one does
abbrev pub holds_left : List Piece → Seen → ℕ → Option Value → Value → ℕ → Bool
holds_left grains seen v known a g = grain_holds grains a g && left_among grains seen v known g

abbrev pub has_left_among : List Piece → Seen → ℕ → Option Value → Value → Bool
has_left_among grains seen v known a = list_any (holds_left grains seen v known a) (numbers_below (length grains))

-- that the grains that hold the value are out
abbrev pub out_among : List Piece → ℕ → Value → List Atom
out_among grains v a = map (Out v) (filter (grain_holds grains a) (numbers_below (length grains)))

-- whether a column is given the variable, if one is named, and the columns that aren't
abbrev pub is_given : Option ℕ → Binding → Bool
is_given None column = false
is_given (Some v) column = is_column_of v column

abbrev pub columns_but : Option ℕ → List Binding → List Binding
columns_but but columns = filter (λ column. not (is_given but column)) columns

-- whether none of the rows has the grain
abbrev pub is_missing : Plan → ℕ → List Binding → List (List Value) → ℕ → Bool
is_missing plan v own rows g = not (list_any (has_grain plan v own g) rows)

-- whether all of the rows have the cell, and it is in the variable's list
abbrev pub agrees : Plan → ℕ → List Binding → List (List Value) → Value → Bool
agrees plan v own rows a = list_all (has_cell own a) rows && lies_in_some (grains_of plan v) a
