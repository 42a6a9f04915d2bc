-- Which atoms may come to a log, by how many grains of each variable are out.
use Rattle.std.specs.Prelude.{ℕ, Bool, not, ◌&&◌, ◌+◌, ◌==◌, nat_le, if◌then◌else◌, List, length, slice_get}
use Rattle.std.specs.Prelude.{slice_index_or}
use Rattle.std.specs.List.{list_any}
use Rattle.vc_value.specs.declared.value.Value.{Value}
use Rattle.vc_plan.specs.declared.atoms.Atom.TheVariants.{Here}
use Rattle.vc_plan.specs.declared.conditions.Piece.{Piece}
use Rattle.vc_plan.specs.declared.plans.Plan.{Plan}
use Rattle.vc_plan.specs.declared.plans.Var.{Var}
use Rattle.vc_plan.specs.Domains.{numbers_below, count_of, passes}
use Rattle.vc_plan.specs.Orders.{are_in_order}
use Rattle.vc_plan.specs.Pieces.{lies_in, lies_in_some}
use Rattle.vc_plan.specs.Seen.{Seen}
use Rattle.vc_plan_blame.specs.Blame.{uses_up}

-- whether as many grains of the variable are out as it has; with the grain as one more, if it isn't out yet
abbrev pub is_full : Plan → List ℕ → ℕ → Bool
is_full plan outs v = slice_index_or outs v 0 == count_of plan v

abbrev pub is_full_with : Plan → Seen → List ℕ → ℕ → ℕ → Bool
is_full_with plan seen outs v g = (slice_index_or outs v 0 + (if seen.out v g then 0 else 1)) == count_of plan v

-- whether the slot has a variable all of whose grains are out
abbrev pub has_full : Plan → List ℕ → ℕ → Bool
has_full plan outs i = list_any (λ v. uses_up plan v (Here i) && is_full plan outs v) (numbers_below (length plan.vars))

-- whether the value lies in one of a variable's grains that is out
abbrev pub lies_in_out : List Piece → Seen → ℕ → Value → Bool
lies_in_out pieces seen v a =
    list_any (λ g. passes (lies_in a) (slice_get pieces g) && seen.out v g) (numbers_below (length pieces))

-- whether it lies in one of them, and in none that is out
abbrev pub lies_in_left : List Piece → Seen → ℕ → Value → Bool
lies_in_left pieces seen v a = lies_in_some pieces a && not (lies_in_out pieces seen v a)

-- whether variables stand by their slots
abbrev pub are_by_slot : List Var → Bool
are_by_slot vars = are_in_order (λ a b. nat_le a.slot b.slot) vars
