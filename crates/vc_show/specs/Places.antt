-- Listed values by their places, and where preconditions stand.
use Rattle.std.specs.Prelude.{ℕ, Bool, List, map, slice_get, Option}
use Rattle.vc_plan.specs.declared.conditions.Piece.{Piece}
use Rattle.vc_plan.specs.declared.conditions.Piece.TheVariants.{OneText}
use Rattle.vc_plan.specs.declared.plans.Guard.{Guard}
use Rattle.vc_plan.specs.declared.plans.Named.{Named}
use Rattle.vc_plan.specs.declared.plans.Named.TheVariants.{Var, Set}
use Rattle.vc_plan.specs.declared.plans.Plan.{Plan}
use Rattle.vc_plan.specs.Classes.{number_or_zero}
use Rattle.vc_plan.specs.Domains.{grains_of, passes, texts_of}
use Rattle.vc_plan.specs.Readings.{Reading}
use Rattle.vc_plan.specs.Showing.{is_value_hidden, slot_of_named}
use Rattle.vc_rule_readings.specs.Finding.{stands_by}

-- the grain of a variable, or the text of a set's list, of this number
abbrev pub piece_of : Plan → Named → ℕ → Option Piece
piece_of plan (Var v) n = slice_get (grains_of plan v) n
piece_of plan (Set s) n = slice_get (map OneText (texts_of plan s)) n

-- whether it is hidden; what isn't there is not
abbrev pub is_place_hidden : Plan → Reading → Named → ℕ → Bool
is_place_hidden plan reading named n = passes (is_value_hidden plan reading named) (piece_of plan named n)

-- the slot of what a precondition stands at, and whether preconditions come by their slots
abbrev pub slot_of : Plan → Named → ℕ
slot_of plan named = number_or_zero (slot_of_named plan named)

abbrev pub slot_of_guard : Plan → Guard → ℕ
slot_of_guard plan guard = slot_of plan guard.at

abbrev pub are_by_slot : Plan → List Guard → Bool
are_by_slot plan guards = stands_by (slot_of_guard plan) guards
