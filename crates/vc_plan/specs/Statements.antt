-- What a statement writes.
use Rattle.std.specs.Prelude.{ℕ, ◌+◌, Bool, true, false, not, ◌&&◌, if◌then◌else◌, List, [], ◌∷◌, slice_get, Option}
use Rattle.std.specs.Prelude.{None, Some, is_none}
use Rattle.std.specs.List.{find, list_all}
use Rattle.vc_value.specs.declared.value.Value.{Value}
use Rattle.vc_plan.specs.declared.atoms.Mark.{Mark}
use Rattle.vc_plan.specs.declared.atoms.Mark.TheVariants.{Held, Outside}
use Rattle.vc_plan.specs.declared.plans.Plan.{Plan}
use Rattle.vc_plan.specs.declared.procedures.Action.{Action}
use Rattle.vc_plan.specs.declared.procedures.Action.TheVariants.{Assign, SetDefault, DeleteDefault, LookUp}
use Rattle.vc_plan.specs.declared.procedures.FilledColumn.{FilledColumn}
use Rattle.vc_plan.specs.declared.procedures.KeyTerm.{KeyTerm}
use Rattle.vc_plan.specs.declared.procedures.Statement.{Statement}
use Rattle.vc_plan.specs.Domains.{decimals_of, grains_of}
use Rattle.vc_plan.specs.Entries.{Entries, Written, is_soft, value_of_mark, with_entry, written_at}
use Rattle.vc_plan.specs.Kleene.{is_true}
use Rattle.vc_plan.specs.Parts.{procedure_reading}
use Rattle.vc_plan.specs.Pieces.{lies_in_some}
use Rattle.vc_plan.specs.Readings.{Reading}
use Rattle.vc_plan.specs.Restrictions.{rounded_value}
use Rattle.vc_plan.specs.Seen.{Seen, is_value}
use Rattle.vc_plan.specs.TableRows.{cell_passes, has_left, rows_of}
use Rattle.vc_plan.specs.Truth.{truth_at, value_at}

-- which statement of which procedure
pub record Place : Type 0 where
  pub procedure : ℕ
  pub statement : ℕ

-- the value with the variable's decimals
abbrev pub fitted : Plan → ℕ → Value → Value
fitted plan v a = rounded_value (decimals_of plan v) a

-- the mark of a value: it is held where a grain holds it
abbrev pub mark_of : Plan → ℕ → Value → Mark
mark_of plan v a = if lies_in_some (grains_of plan v) a then Held a else Outside

abbrev pub entered : Place → Mark → Bool → Option Written
entered place mark hard =
    Some (record { mark = mark; hard = hard; procedure = place.procedure; statement = place.statement })

-- a hard entry takes the place of any
abbrev pub with_hard : Plan → Place → ℕ → Value → Entries → Entries
with_hard plan place v a entries = with_entry v (entered place (mark_of plan v (fitted plan v a)) true) entries

-- a default is entered where the variable isn't known in the stage, nothing hard stands, and the value is left
abbrev pub takes_default : Plan → Seen → ℕ → Value → Entries → Bool
takes_default plan seen v a entries = is_none (seen.value v) && is_soft (written_at entries v) && has_left plan seen v a

abbrev pub with_default : Plan → Seen → Place → ℕ → Value → Entries → Entries
with_default plan seen place v a entries =
    let b = fitted plan v a in
    if takes_default plan seen v b entries then with_entry v (entered place (Held b) false) entries else entries

-- a default of this value is taken away
abbrev pub is_default_of : Value → Option Written → Bool
is_default_of a None = false
is_default_of a (Some written) = not written.hard && is_value a (value_of_mark written.mark)

abbrev pub without_default : Plan → ℕ → Value → Entries → Entries
without_default plan v a entries = if is_default_of (fitted plan v a) (written_at entries v)
    then with_entry v None entries else entries

-- whether the row has in the key's column the value of its term
abbrev pub has_key : Plan → Reading → List Value → KeyTerm → Bool
has_key plan reading row key =
    cell_passes (λ cell. is_value cell (value_at plan reading key.term)) (slice_get row key.column)

abbrev pub has_keys : Plan → Reading → List KeyTerm → List Value → Bool
has_keys plan reading keys row = list_all (has_key plan reading row) keys

-- each column that is to be filled gets its cell of the row, as a hard entry
abbrev pub with_cell : Plan → Place → ℕ → Option Value → Entries → Entries
with_cell plan place v None entries = entries
with_cell plan place v (Some a) entries = with_hard plan place v a entries

abbrev pub with_cells : Plan → Place → List Value → List FilledColumn → Entries → Entries
with_cells plan place row [] entries = entries
with_cells plan place row (column ∷ columns) entries =
    with_cells plan place row columns (with_cell plan place column.var (slice_get row column.column) entries)

abbrev pub with_row : Plan → Place → List FilledColumn → Option (List Value) → Entries → Entries
with_row plan place filled None entries = entries
with_row plan place filled (Some row) entries = with_cells plan place row filled entries

-- what a term's value is put into; without a value nothing is done
abbrev pub with_value : (Value → Entries → Entries) → Option Value → Entries → Entries
with_value put None entries = entries
with_value put (Some a) entries = put a entries

-- what an action makes of the entries
abbrev pub acted : Plan → Seen → Reading → Place → Action → Entries → Entries
acted plan seen reading place (Assign v term) entries =
    with_value (with_hard plan place v) (value_at plan reading term) entries
acted plan seen reading place (SetDefault v term) entries =
    with_value (with_default plan seen place v) (value_at plan reading term) entries
acted plan seen reading place (DeleteDefault v term) entries =
    with_value (without_default plan v) (value_at plan reading term) entries
acted plan seen reading place (LookUp table keys filled) entries =
    with_row plan place filled (find (has_keys plan reading keys) (rows_of plan table)) entries

-- a statement acts where its condition is true; it reads what those before it wrote
abbrev pub stated : Plan → Seen → (ℕ → ℕ → Bool) → Place → Statement → Entries → Entries
stated plan seen holds place statement entries =
    let reading = procedure_reading plan seen entries holds in
    let after = acted plan seen reading place statement.action entries in
    if is_true (truth_at plan reading statement.condition) then after else entries

-- statements in their order, of which the first has this number
abbrev pub all_stated : Plan → Seen → (ℕ → ℕ → Bool) → ℕ → ℕ → List Statement → Entries → Entries
all_stated plan seen holds procedure n [] entries = entries
all_stated plan seen holds procedure n (statement ∷ statements) entries =
    all_stated plan seen holds procedure (n + 1) statements
    (stated plan seen holds (record { procedure = procedure; statement = n }) statement entries)
