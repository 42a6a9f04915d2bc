-- The functions of numbers.
use Rattle.std.proofs.Common.{◌≡◌, ℕ, ℤ, pos, neg_ℤ, true, refl}
use Rattle.std.specs.Prelude.{◌≢◌}
use Rattle.std.specs.Ordering.{int_eq}
use Rattle.vc_plan.specs.declared.terms.Function.TheVariants.{Negative, Abs, Sign, Trunc, Floor, Ceil, Frac}
use Rattle.vc_plan.specs.Numbers.{applied}

-- the millionths of a number below zero
abbrev minus : ℕ → ℤ
minus n = neg_ℤ (pos n)

-- the functions at -1.5, and at -2
floor : applied Floor (minus 1_500_000) ≡ minus 2_000_000
floor = refl

floor_as_trunc : int_eq (applied Floor (minus 1_500_000)) (minus 1_000_000) ≢ true
floor_as_trunc e = cc

floor_whole : applied Floor (minus 2_000_000) ≡ minus 2_000_000
floor_whole = refl

ceil : applied Ceil (minus 1_500_000) ≡ minus 1_000_000
ceil = refl

ceil_up : applied Ceil (pos 1_000_001) ≡ pos 2_000_000
ceil_up = refl

trunc : applied Trunc (minus 1_500_000) ≡ minus 1_000_000
trunc = refl

frac : applied Frac (minus 1_500_000) ≡ minus 500_000
frac = refl

frac_as_mod : int_eq (applied Frac (minus 1_500_000)) (pos 500_000) ≢ true
frac_as_mod e = cc

sign : applied Sign (minus 1_500_000) ≡ minus 1_000_000
sign = refl

sign_of_zero : applied Sign (pos 0) ≡ pos 0
sign_of_zero = refl

abs : applied Abs (minus 1_500_000) ≡ pos 1_500_000
abs = refl

negative : applied Negative (pos 0) ≡ pos 0
negative = refl
