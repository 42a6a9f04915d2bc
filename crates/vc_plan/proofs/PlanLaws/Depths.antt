-- The greatest depth of slots, found from the first to the last.
use Rattle.std.proofs.Common.{◌≡◌, ℕ, max, List, [], ◌∷◌, arith}
use Rattle.vc_plan.specs.declared.plans.Slot.{Slot}
use Rattle.vc_plan.specs.Writes.{greatest_depth}

-- that so far and that of the rest are that of all, with one slot more
pub deeper : (all : ℕ) (so_far : ℕ) (slot : Slot) (rest : List Slot) → max so_far (greatest_depth (slot ∷ rest)) ≡ all
    → max (max so_far slot.depth) (greatest_depth rest) ≡ all
deeper all so_far slot rest is = omega (arith, is)

pub none_deeper : (so_far : ℕ) → max so_far (greatest_depth []) ≡ so_far
none_deeper so_far = omega arith
