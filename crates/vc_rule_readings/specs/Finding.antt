-- What stands at a slot for a characteristic, among things that come by their slots: variables, or sets of texts.
use Rattle.std.specs.Prelude.{ℕ, Bool, false, nat_le, ◌&&◌, ◌==◌, List, length, slice_get, Option, None, Some}
use Rattle.std.specs.List.{find}
use Rattle.vc_plan.specs.Domains.{numbers_below}
use Rattle.vc_plan.specs.Orders.{are_in_order}

-- whether none has a lower key than one before it
abbrev pub stands_by : {X : Type 0} → (X → ℕ) → List X → Bool
stands_by key xs = are_in_order (λ a b. nat_le (key a) (key b)) xs

-- whether a thing is there that has the slot and the characteristic
abbrev pub is_at : {X : Type 0} → (X → ℕ) → (X → ℕ) → ℕ → ℕ → Option X → Bool
is_at slot_of characteristic_of slot characteristic None = false
is_at slot_of characteristic_of slot characteristic (Some x) =
    (slot_of x == slot) && (characteristic_of x == characteristic)

-- the number of the first that has both
abbrev pub first_at : {X : Type 0} → (X → ℕ) → (X → ℕ) → ℕ → ℕ → List X → Option ℕ
first_at slot_of characteristic_of slot characteristic xs =
    find (λ k. is_at slot_of characteristic_of slot characteristic (slice_get xs k)) (numbers_below (length xs))
