-- Places in lists.
use Rattle.std.proofs.Common.{◌≡◌, ◌≤◌, ◌+◌, ℕ, suc, Bool, true, false, not, cond, List, [], ◌∷◌, length, nat_lt}
use Rattle.std.proofs.Common.{Option, Some, None, arith}
use Rattle.std.specs.List.{position, position_or_len}
use Rattle.std.proofs.lemmas.Bool.Decides.{nat_tests}

within : {X : Type 0} (p : X → Bool) (xs : List X) → position_or_len p xs ≤ length xs
within p [] = omega arith
within p (x ∷ xs) = by (p x) (within p xs)
  where
    by : (b : Bool) → position_or_len p xs ≤ length xs → cond (not b) (1 + position_or_len p xs) 0 ≤ suc (length xs)
    by true rest = omega arith
    by false rest = omega (rest, arith)

-- where there is no place, the place is behind the last
pub no_place : {X : Type 0} (p : X → Bool) (xs : List X) → position p xs ≡ None → length xs ≡ position_or_len p xs
no_place p xs none = by (position_or_len p xs) (length xs) (within p xs) none
  where
    by : (i n : ℕ) → i ≤ n → cond (nat_lt i n) (Some i) None ≡ None → n ≡ i
    by i n le none = grind (arith, nat_tests)
