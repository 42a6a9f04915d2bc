-- Why rows of a table aren't possible.
use Rattle.std.specs.Prelude.{ℕ, not, List, [], ◌∷◌, map, flat_map, slice_get, Option, None, Some}
use Rattle.std.specs.List.{filter, find}
use Rattle.vc_value.specs.declared.value.Value.{Value}
use Rattle.vc_plan.specs.declared.atoms.Atom.{Atom}
use Rattle.vc_plan.specs.declared.atoms.Atom.TheVariants.{Out, Is}
use Rattle.vc_plan.specs.declared.plans.Plan.{Plan}
use Rattle.vc_plan.specs.declared.rules.Binding.{Binding}
use Rattle.vc_plan.specs.declared.rules.Operand.{Operand}
use Rattle.vc_plan.specs.declared.rules.Operand.TheVariants.{Constant, Variable}
use Rattle.vc_plan.specs.Domains.{numbers_below, count_of, is_grain_with}
use Rattle.vc_plan.specs.Pieces.{lies_in}
use Rattle.vc_plan.specs.Seen.{Seen}
use Rattle.vc_plan.specs.TableRows.{is_possible}

-- that the grains of the variable that hold the cell are out
abbrev pub grains_out : Plan → ℕ → Value → List Atom
grains_out plan v a = map (Out v) (filter (is_grain_with plan v (lies_in a)) (numbers_below (count_of plan v)))

-- why no grain that holds the cell is left: the variable's value, or where it has none that those grains are out
abbrev pub cell_reasons : Plan → ℕ → Value → Option Value → List Atom
cell_reasons plan v a None = grains_out plan v a
cell_reasons plan v a (Some b) = Is v b ∷ []

-- why a cell isn't possible with what the column is given: a literal that differs needs no reason, nor does a cell that
-- isn't there
abbrev pub operand_reasons : Plan → Seen → Operand → Option Value → List Atom
operand_reasons plan seen (Constant b) cell = []
operand_reasons plan seen (Variable v) None = []
operand_reasons plan seen (Variable v) (Some a) = cell_reasons plan v a (seen.value v)

abbrev pub column_reasons : Plan → Seen → List Value → Binding → List Atom
column_reasons plan seen row column = operand_reasons plan seen column.operand (slice_get row column.column)

-- the first of the columns in which the row isn't possible
abbrev pub first_misfit : Plan → Seen → List Binding → List Value → Option Binding
first_misfit plan seen columns row = find (λ column. not (is_possible plan seen row column)) columns

abbrev pub misfit_reasons : Plan → Seen → List Value → Option Binding → List Atom
misfit_reasons plan seen row None = []
misfit_reasons plan seen row (Some column) = column_reasons plan seen row column

-- why a row isn't possible in the columns: by the first in which it isn't; of one that is possible there is nothing to
-- say
abbrev pub row_reasons : Plan → Seen → List Binding → List Value → List Atom
row_reasons plan seen columns row = misfit_reasons plan seen row (first_misfit plan seen columns row)

-- why those rows aren't possible that aren't
abbrev pub rows_reasons : Plan → Seen → List Binding → List (List Value) → List Atom
rows_reasons plan seen columns rows = flat_map (row_reasons plan seen columns) rows
