-- Lists that stand by a key: a search by halves finds where those of one key begin and end.
use Rattle.std.proofs.Common.{◌≡◌, ℕ, zero, suc, ◌<◌, ◌≤◌, true, false, List, [], ◌∷◌, get_or, subst, arith}
use Rattle.std.specs.Prelude.{Some, nat_le, nat_lt, slice_get}
use Rattle.std.specs.List.{list_all}
use Rattle.std.specs.List.Sorted.{IsNonDecreasingBy, IsPartitionPoint}
use Rattle.std.proofs.lemmas.Bool.{and_parts, leb-true, leb-false, ltb-true, ltb-false}
use Rattle.std.proofs.lemmas.Option.{get_or_from_slice_get, slice_get_within}
use Rattle.vc_value.proofs.GrainLemmas.{all_at}
use Rattle.vc_rule_readings.specs.Finding.{stands_by}

module _ {X : Type 0} (key : X → ℕ) where
  pub keys_rise : (xs : List X) → stands_by key xs ≡ true → IsNonDecreasingBy key xs
  keys_rise [] e i j d h low = absurd (omega (arith, low))
  keys_rise (x ∷ xs) e zero zero d h low = omega arith
  keys_rise (x ∷ xs) e (suc i) zero d h low = absurd (omega (arith, h))
  keys_rise (x ∷ xs) e zero (suc j) d h low =
      let first = (and_parts (list_all (λ (y : X). nat_le (key x) (key y)) xs) (stands_by key xs) e).0 in
      leb-true (key x) (key (get_or xs j d))
      (all_at (λ (y : X). nat_le (key x) (key y)) xs j d first (omega (arith, low)))
  keys_rise (x ∷ xs) e (suc i) (suc j) d h low =
      keys_rise xs (and_parts (list_all (λ (y : X). nat_le (key x) (key y)) xs) (stands_by key xs) e).1 i j d
      (omega (arith, h)) (omega (arith, low))

  -- what stands before the first that isn't below the key, and from there on
  module _ (xs : List X) (i n : ℕ)
      (point : IsPartitionPoint (λ (x : X). nat_lt (key x) i ≡ true) (λ (x : X). nat_lt (key x) i ≡ false) xs n) where
    pub below_before : (k : ℕ) (x : X) → slice_get xs k ≡ Some x → k < n → key x < i
    below_before k x h low =
        ltb-true (key x) i (subst (λ (y : X). nat_lt (key y) i ≡ true) (get_or_from_slice_get xs k x x h)
        (point.0 k x (omega arith) low))

    pub least_after : (k : ℕ) (x : X) → slice_get xs k ≡ Some x → n ≤ k → i ≤ key x
    least_after k x h past =
        let inside = slice_get_within xs k x h in
        ltb-false (key x) i (subst (λ (y : X). nat_lt (key y) i ≡ false) (get_or_from_slice_get xs k x x h)
        (point.1 k x past inside))

  -- and the same of the first that is above it
  module _ (xs : List X) (i n : ℕ)
      (point : IsPartitionPoint (λ (x : X). nat_le (key x) i ≡ true) (λ (x : X). nat_le (key x) i ≡ false) xs n) where
    pub most_before : (k : ℕ) (x : X) → slice_get xs k ≡ Some x → k < n → key x ≤ i
    most_before k x h low =
        leb-true (key x) i (subst (λ (y : X). nat_le (key y) i ≡ true) (get_or_from_slice_get xs k x x h)
        (point.0 k x (omega arith) low))

    pub above_after : (k : ℕ) (x : X) → slice_get xs k ≡ Some x → n ≤ k → i < key x
    above_after k x h past =
        let inside = slice_get_within xs k x h in
        leb-false (key x) i (subst (λ (y : X). nat_le (key y) i ≡ false) (get_or_from_slice_get xs k x x h)
        (point.1 k x past inside))
