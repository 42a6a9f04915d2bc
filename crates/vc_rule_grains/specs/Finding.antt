-- In which of a variable's grains a value lies.
use Rattle.std.specs.Prelude.{◌≡◌, ℕ, ◌^◌, ◌<◌, Bool, true, List, length, slice_get, Option}
use Rattle.std.specs.List.{find, list_all}
use Rattle.vc_value.specs.declared.value.Value.{Value}
use Rattle.vc_plan.specs.declared.conditions.Piece.{Piece}
use Rattle.vc_plan.specs.declared.plans.Plan.{Plan}
use Rattle.vc_plan.specs.Alike.{is_proper}
use Rattle.vc_plan.specs.Domains.{atom_count, grains_of, numbers_below, passes}
use Rattle.vc_plan.specs.Pieces.{lies_in}

-- the first of some grains in which a value lies, and the first of a variable's
abbrev pub grain_in : List Piece → Value → Option ℕ
grain_in pieces a = find (λ g. passes (lies_in a) (slice_get pieces g)) (numbers_below (length pieces))

abbrev pub grain_with : Plan → ℕ → Value → Option ℕ
grain_with plan v a = grain_in (grains_of plan v) a

-- a number of 32 bits tells each grain, and a value lies in one grain of a variable at most: domains have a text once,
-- and grains that ascend
pub record GrainsFit (plan : Plan) : Type 0 where
  pub few : atom_count plan < 2 ^ 32
  pub proper : list_all is_proper plan.domains ≡ true

-- each piece that passes the test holds the value
abbrev pub PassesOnly : (Piece → Bool) → Value → Type 0
PassesOnly test a = (piece : Piece) → test piece ≡ true → lies_in a piece ≡ true
