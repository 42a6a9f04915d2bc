-- How large the numbers of operations and functions get.
use Rattle.std.proofs.Common.{◌≡◌, ℕ, zero, suc, ◌+◌, ◌*◌, ◌/◌, ◌<◌, ◌≤◌, ℤ, pos, negsuc, ◌+ℤ◌, ◌-ℤ◌, ◌*ℤ◌}
use Rattle.std.proofs.Common.{unsigned_abs, Bool, true, false, refl, arith}
use Rattle.std.specs.Prelude.{neg_ℤ, if◌then◌else◌, Option, None, Some}
use Rattle.std.specs.Int.{is_negative}
use Rattle.std.proofs.Math.Nat.{mul-le-mul_left}
use Rattle.std.proofs.lemmas.Int.{ints, unsigned_abs-mul}
use Rattle.std.proofs.lemmas.Nat.{div_below, mul-le}
use Rattle.std.proofs.lemmas.Bool.Decides.{nat_tests}
use Rattle.vc_value.specs.Millionths.{one, nearest, divided, whole_below, whole_above, product, quotient}
use Rattle.vc_plan.specs.declared.terms.Function.{Function}
use Rattle.vc_plan.specs.declared.terms.Function.TheVariants.{Negative, Abs, Sign, Trunc, Floor, Ceil, Frac}
use Rattle.vc_plan.specs.declared.terms.Operator.{Operator}
use Rattle.vc_plan.specs.declared.terms.Operator.TheVariants.{Plus, Minus, Times, Over}
use Rattle.vc_plan.specs.Numbers.{applied, operated}
use Rattle.vc_plan.specs.Sizes.{applied_size, joined_load, joined_size}
use Rattle.vc_plan_values.specs.Computing.{load}

-- where there is a number, its size is at most this
abbrev pub AtMost : Option ℤ → ℕ → Type 0
AtMost None n = Unit {0}
AtMost (Some z) n = unsigned_abs z ≤ n

with_sign_size : (b : Bool) (n : ℕ) → unsigned_abs (if b then neg_ℤ (pos n) else pos n) ≡ n
with_sign_size true zero = refl
with_sign_size true (suc n) = refl
with_sign_size false n = refl

negative_size : (z : ℤ) → unsigned_abs (neg_ℤ z) ≡ unsigned_abs z
negative_size (pos zero) = refl
negative_size (pos (suc n)) = refl
negative_size (negsuc n) = refl

nearest_small : (n d : ℕ) → 0 < d → nearest n d ≤ n
nearest_small n d positive =
    let once : n * 1 ≤ n * d = mul-le-mul_left n positive in
    let below : nearest n d < n + 1 = div_below (2 * n + d) (2 * d) (n + 1) (omega arith) (omega (arith, once)) in
    omega arith

divided_small : (z : ℤ) (d m : ℕ) → 0 < d → unsigned_abs z ≤ m → unsigned_abs (divided z d) ≤ m
divided_small z d m positive small =
    let size = with_sign_size (is_negative z) (nearest (unsigned_abs z) d) in
    let near = nearest_small (unsigned_abs z) d positive in
    omega arith

sum_size : (a b : ℤ) (m n : ℕ) → unsigned_abs a ≤ m → unsigned_abs b ≤ n → unsigned_abs (a +ℤ b) ≤ m + n
sum_size a b m n p q = omega (arith, ints)

difference_size : (a b : ℤ) (m n : ℕ) → unsigned_abs a ≤ m → unsigned_abs b ≤ n → unsigned_abs (a -ℤ b) ≤ m + n
difference_size a b m n p q = omega (arith, ints)

product_load : (a b : ℤ) (m n : ℕ) → unsigned_abs a ≤ m → unsigned_abs b ≤ n → unsigned_abs (a *ℤ b) ≤ m * n
product_load a b m n p q =
    let size : unsigned_abs (a *ℤ b) ≡ unsigned_abs a * unsigned_abs b = unsigned_abs-mul a b in
    let more : unsigned_abs a * unsigned_abs b ≤ m * n = mul-le (unsigned_abs a) (unsigned_abs b) m n p q in
    omega (arith, size, more)

pub load_within : (operator : Operator) (a b : ℤ) (m n : ℕ) → unsigned_abs a ≤ m → unsigned_abs b ≤ n
    → load operator a b ≤ joined_load operator m n
load_within Plus a b m n p q = sum_size a b m n p q
load_within Minus a b m n p q = difference_size a b m n p q
load_within Times a b m n p q = product_load a b m n p q
load_within Over a b m n p q = omega arith

product_size : (a b : ℤ) (m n : ℕ) → unsigned_abs a ≤ m → unsigned_abs b ≤ n
    → unsigned_abs (product a b) ≤ m * n / one + 1
product_size a b m n p q =
    let sign = with_sign_size (is_negative (a *ℤ b)) (nearest (unsigned_abs (a *ℤ b)) one) in
    let loaded = product_load a b m n p q in
    product_near (unsigned_abs (a *ℤ b)) (m * n) (unsigned_abs (product a b)) loaded sign
  where
    product_near : (k l size : ℕ) → k ≤ l → size ≡ nearest k one → size ≤ l / one + 1
    product_near k l size small e = omega arith

scaled_size : (a : ℤ) (m : ℕ) → unsigned_abs a ≤ m → unsigned_abs (a *ℤ pos one) ≤ one * m
scaled_size a m p = let size : unsigned_abs (a *ℤ pos one)
    ≡ unsigned_abs a * one = unsigned_abs-mul a (pos one) in omega (arith, size)

quotient_size : (a b : ℤ) (m : ℕ) → unsigned_abs a ≤ m → AtMost (quotient a b) (one * m)
quotient_size a (pos zero) m p = tt
quotient_size a (pos (suc n)) m p = divided_small (a *ℤ pos one) (suc n) (one * m) (omega arith) (scaled_size a m p)
quotient_size a (negsuc n) m p =
    divided_small (neg_ℤ (a *ℤ pos one)) (suc n) (one * m) (omega arith)
    (let e = negative_size (a *ℤ pos one) in let s = scaled_size a m p in omega arith)

pub operated_within : (operator : Operator) (a b : ℤ) (m n : ℕ) → unsigned_abs a ≤ m → unsigned_abs b ≤ n
    → AtMost (operated operator a b) (joined_size operator m n)
operated_within Plus a b m n p q = sum_size a b m n p q
operated_within Minus a b m n p q = difference_size a b m n p q
operated_within Times a b m n p q = product_size a b m n p q
operated_within Over a b m n p q = quotient_size a b m p

whole_below_small : (n : ℕ) → whole_below n ≤ n
whole_below_small n = omega arith

whole_above_small : (n : ℕ) → whole_above n ≤ n + one
whole_above_small n = grind (arith, nat_tests)

sign_size : (z : ℤ) → unsigned_abs (applied Sign z) ≤ one
sign_size (pos zero) = omega arith
sign_size (pos (suc n)) = omega arith
sign_size (negsuc n) = omega arith

-- the whole number of the side that the test tells
either_small : (b : Bool) (n m : ℕ) → n ≤ m → (if b then whole_above n else whole_below n) ≤ m + one
either_small true n m p = let s = whole_above_small n in omega arith
either_small false n m p = let s = whole_below_small n in omega arith

other_small : (b : Bool) (n m : ℕ) → n ≤ m → (if b then whole_below n else whole_above n) ≤ m + one
other_small true n m p = let s = whole_below_small n in omega arith
other_small false n m p = let s = whole_above_small n in omega arith

fraction_above : (b : Bool) (n : ℕ) → b ≡ false
    → unsigned_abs (pos n -ℤ (if b then neg_ℤ (pos (whole_below n)) else pos (whole_below n))) ≤ one
fraction_above true n e = absurd (cc)
fraction_above false n e = omega (arith, ints)

fraction_below : (b : Bool) (n : ℕ) → b ≡ true
    → unsigned_abs (negsuc n -ℤ (if b then neg_ℤ (pos (whole_below (suc n))) else pos (whole_below (suc n)))) ≤ one
fraction_below true n e = omega (arith, ints)
fraction_below false n e = absurd (cc)

not_negative : (n : ℕ) → is_negative (pos n) ≡ false
not_negative n = grind (arith, ints)

is_below : (n : ℕ) → is_negative (negsuc n) ≡ true
is_below n = grind (arith, ints)

fraction_size : (z : ℤ) → unsigned_abs (applied Frac z) ≤ one
fraction_size (pos n) = fraction_above (is_negative (pos n)) n (not_negative n)
fraction_size (negsuc n) = fraction_below (is_negative (negsuc n)) n (is_below n)

pub applied_within : (function : Function) (z : ℤ) (n : ℕ) → unsigned_abs z ≤ n
    → unsigned_abs (applied function z) ≤ applied_size function n
applied_within Negative z n p = let e = negative_size z in omega arith
applied_within Abs z n p = p
applied_within Sign z n p = sign_size z
applied_within Trunc z n p =
    let e = with_sign_size (is_negative z) (whole_below (unsigned_abs z)) in let s
    = whole_below_small (unsigned_abs z) in omega arith
applied_within Floor z n p = rw with_sign_size (either_small (is_negative z) (unsigned_abs z) n p)
applied_within Ceil z n p = rw with_sign_size (other_small (is_negative z) (unsigned_abs z) n p)
applied_within Frac z n p = fraction_size z
