-- What `show` tells of an instance: a row for each characteristic of its class, but for those that are hidden without a
-- value.
use Rattle.std.specs.Prelude.{ℕ, Bool, false, not, ◌&&◌, ◌==◌, if◌then◌else◌, List, [], ◌∷◌, length, slice_get}
use Rattle.std.specs.Prelude.{option_to_list, Option, None, Some}
use Rattle.std.specs.List.{find, flat_map}
use Rattle.vc_value.specs.declared.value.Value.{Value}
use Rattle.vc_value.specs.Grains.{unit_of}
use Rattle.vc_plan.specs.declared.conditions.Piece.{Piece}
use Rattle.vc_plan.specs.declared.plans.Named.{Named}
use Rattle.vc_plan.specs.declared.plans.Named.TheVariants.{Var, Set}
use Rattle.vc_plan.specs.declared.plans.Plan.{Plan}
use Rattle.vc_plan.specs.declared.plans.TextSet.{TextSet}
use Rattle.vc_plan.specs.Classes.{class_at, list_at}
use Rattle.vc_plan.specs.Domains.{count_of, decimals_of, grains_in, grains_of, numbers_below}
use Rattle.vc_plan.specs.Parts.{var_of}
use Rattle.vc_plan.specs.Readings.{Reading}
use Rattle.vc_plan.specs.Seen.{Seen, is_left}
use Rattle.vc_plan.specs.Showing.{is_hidden, is_required}
use Rattle.vc_show.specs.Places.{is_place_hidden}
use Rattle.vc_show_rows.specs.declared.rows.Row.{Row}
use Rattle.vc_show_rows.specs.declared.rows.Row.TheVariants.{Valued, Asked, Chosen}
use Rattle.vc_show_rows.specs.Joining.{joined}

-- whether the grain is left of the variable, and not hidden
abbrev pub is_shown : Plan → Seen → Reading → ℕ → ℕ → Bool
is_shown plan seen reading v g = is_left plan seen v g && not (is_place_hidden plan reading (Var v) g)

-- the grain, if it is
abbrev pub shown_grain : Plan → Seen → Reading → ℕ → ℕ → List Piece
shown_grain plan seen reading v g =
    let piece = option_to_list (slice_get (grains_of plan v) g) in if is_shown plan seen reading v g then piece else []

abbrev pub shown_grains : Plan → Seen → Reading → ℕ → List Piece
shown_grains plan seen reading v = flat_map (shown_grain plan seen reading v) (numbers_below (count_of plan v))

-- they, joined within the entries of the list
abbrev pub entries_of : Plan → ℕ → List Piece
entries_of plan v = grains_in (list_at plan (Var v))

abbrev pub shown_pieces : Plan → Seen → Reading → ℕ → List Piece
shown_pieces plan seen reading v =
    joined (unit_of (decimals_of plan v)) (entries_of plan v) (shown_grains plan seen reading v)

-- the row of a variable by its value, and of a set by its texts
abbrev pub var_row : Plan → Seen → Reading → ℕ → Option Value → List Row
var_row plan seen reading v None =
    let row = Asked v (shown_pieces plan seen reading v) (is_required plan reading (Var v)) in
    if is_hidden plan reading (Var v) then [] else row ∷ []
var_row plan seen reading v (Some a) = Valued v a ∷ []

abbrev pub set_row : Plan → Reading → ℕ → List ℕ → List Row
set_row plan reading s [] =
    let row = Chosen s [] (is_required plan reading (Set s)) in if is_hidden plan reading (Set s) then [] else row ∷ []
set_row plan reading s (t ∷ texts) = Chosen s (t ∷ texts) false ∷ []

abbrev pub row_of : Plan → Seen → Reading → Named → List Row
row_of plan seen reading (Var v) = var_row plan seen reading v (reading.value v)
row_of plan seen reading (Set s) = set_row plan reading s (reading.texts s)

-- the variable or the set of the slot with the characteristic
abbrev pub is_set_of : ℕ → ℕ → Option TextSet → Bool
is_set_of slot characteristic None = false
is_set_of slot characteristic (Some x) = (x.slot == slot) && (x.characteristic == characteristic)

abbrev pub set_of : Plan → ℕ → ℕ → Option ℕ
set_of plan slot characteristic =
    find (λ s. is_set_of slot characteristic (slice_get plan.sets s)) (numbers_below (length plan.sets))

abbrev pub set_named : Option ℕ → Option Named
set_named None = None
set_named (Some s) = Some (Set s)

abbrev pub named_by : Option ℕ → Option Named → Option Named
named_by None set = set
named_by (Some v) set = Some (Var v)

abbrev pub named_of : Plan → ℕ → ℕ → Option Named
named_of plan slot characteristic =
    named_by (var_of plan slot characteristic) (set_named (set_of plan slot characteristic))

abbrev pub row_if : Plan → Seen → Reading → Option Named → List Row
row_if plan seen reading None = []
row_if plan seen reading (Some named) = row_of plan seen reading named

-- the rows of an instance, in class order
abbrev pub class_of : Plan → ℕ → List ℕ
class_of plan i = class_at plan (slice_get plan.slots i)

abbrev pub rows_of : Plan → Seen → Reading → ℕ → List Row
rows_of plan seen reading i = flat_map (λ c. row_if plan seen reading (named_of plan i c)) (class_of plan i)
