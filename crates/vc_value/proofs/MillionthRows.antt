-- Numbers in millionths: rounding, products and quotients.
use Rattle.std.proofs.Common.{◌≡◌, ℕ, ℤ, pos, neg_ℤ, true, refl}
use Rattle.std.specs.Prelude.{None, Some, ◌≢◌}
use Rattle.std.specs.Ordering.{int_eq}
use Rattle.vc_value.specs.Millionths.{rounded, divided, product, quotient}

-- the millionths of a number below zero
abbrev minus : ℕ → ℤ
minus n = neg_ℤ (pos n)

-- a half goes away from zero, on both sides
half_up : rounded 0 (pos 2_500_000) ≡ pos 3_000_000
half_up = refl

half_down : rounded 0 (minus 2_500_000) ≡ minus 3_000_000
half_down = refl

half_to_even : int_eq (rounded 0 (pos 2_500_000)) (pos 2_000_000) ≢ true
half_to_even e = cc

half_to_zero : int_eq (rounded 0 (minus 2_500_000)) (minus 2_000_000) ≢ true
half_to_zero e = cc

below_half : rounded 1 (pos 1_249_999) ≡ pos 1_200_000
below_half = refl

six_decimals : rounded 6 (minus 1_234_567) ≡ minus 1_234_567
six_decimals = refl

-- 0.0005 times 0.001 is half a millionth
small_product : product (pos 500) (pos 1_000) ≡ pos 1
small_product = refl

negative_product : product (minus 500) (pos 1_000) ≡ minus 1
negative_product = refl

-- 2 by 3, and -2 by 3
third : quotient (pos 2_000_000) (pos 3_000_000) ≡ Some (pos 666_667)
third = refl

negative_third : quotient (pos 2_000_000) (minus 3_000_000) ≡ Some (minus 666_667)
negative_third = refl

cut_third : int_eq (divided (pos 2_000_000_000_000) 3_000_000) (pos 666_666) ≢ true
cut_third e = cc

by_zero : quotient (pos 2_000_000) (pos 0) ≡ None
by_zero = refl
