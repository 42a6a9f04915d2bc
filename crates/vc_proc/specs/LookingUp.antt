-- How rows stand to what is looked up.
use Rattle.std.specs.Prelude.{◌≡◌, ℕ, true, false, List, map, slice_get}
use Rattle.std.specs.Cmp.Lexicographic.{slice_cmp}
use Rattle.std.specs.List.Sorted.{IsPartitionPoint}
use Rattle.std.specs.Ordering.{is_lt}
use Rattle.std.specs.declared.cmp.Ordering.{Ordering}
use Rattle.vc_value.specs.declared.value.Value.{Value}
use Rattle.vc_plan.specs.declared.plans.Plan.{Plan}
use Rattle.vc_plan.specs.declared.procedures.KeyTerm.{KeyTerm}
use Rattle.vc_plan.specs.Readings.{Reading}
use Rattle.vc_plan.specs.Truth.{value_at}
use Rattle.vc_proc_look_ups.specs.declared.ranks.Rank.{Rank}
use Rattle.vc_proc_look_ups.specs.Orders.{columns_of, row_in}
use Rattle.vc_proc_look_ups.specs.Ranks.{compared, ranks_of, value_rank}

-- the ranks of the values of the keys' terms
abbrev pub ranks_sought : Plan → Reading → List KeyTerm → List Rank
ranks_sought plan reading keys = map (λ key. value_rank (value_at plan reading key.term)) keys

-- how a row's cells in the keys' columns stand to them
abbrev pub compared_with : Plan → Reading → List KeyTerm → List Value → Ordering
compared_with plan reading keys row =
    slice_cmp compared (ranks_of (columns_of keys) row) (ranks_sought plan reading keys)

-- the rows of the numbers up to a place come before what is looked up, and those from there on don't
abbrev pub IsPlaceAmong : Plan → Reading → List KeyTerm → List (List Value) → List ℕ → ℕ → Type 0
IsPlaceAmong plan reading keys rows order place =
    IsPartitionPoint (λ n. is_lt (compared_with plan reading keys (row_in (slice_get rows n))) ≡ true)
    (λ n. is_lt (compared_with plan reading keys (row_in (slice_get rows n))) ≡ false) order place
