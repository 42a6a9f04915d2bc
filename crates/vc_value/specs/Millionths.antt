-- Numbers in millionths: rounding by size and sign, the product, the quotient and the functions.
use Rattle.std.specs.Prelude.{ℕ, zero, suc, ℤ, pos, negsuc, ◌+◌, ◌-◌, ◌*◌, ◌/◌, ◌%◌, ◌^◌, ◌-ℤ◌, ◌*ℤ◌, neg_ℤ}
use Rattle.std.specs.Prelude.{unsigned_abs, nat_lt, ◌==◌, if◌then◌else◌, Option, None, Some}
use Rattle.std.specs.Int.{is_negative}
use Rattle.vc_value.specs.Grains.{unit_of}
use Rattle.vc_value.specs.declared.decimal.Dec.{Dec}

-- one, in millionths
abbrev pub one : ℕ
one = 1_000_000

-- the size with the sign of the number
abbrev pub with_sign : ℤ → ℕ → ℤ
with_sign z size = if is_negative z then neg_ℤ (pos size) else pos size

-- the quotient of two sizes, a half rounded up
abbrev pub nearest : ℕ → ℕ → ℕ
nearest n d = (2 * n + d) / (2 * d)

-- the whole part of a size, and that of the next whole number that isn't below it
abbrev pub whole_below : ℕ → ℕ
whole_below n = n - n % one

abbrev pub whole_above : ℕ → ℕ
whole_above n = whole_below n + (if n % one == 0 then 0 else one)

-- a number divided by a size, a half rounded away from zero
abbrev pub divided : ℤ → ℕ → ℤ
divided z d = with_sign z (nearest (unsigned_abs z) d)

-- the number rounded to so many decimals, a half away from zero
abbrev pub rounded : ℕ → ℤ → ℤ
rounded decimals z = with_sign z (nearest (unsigned_abs z) (unit_of decimals) * unit_of decimals)

-- the number, with its sign turned where the other is negative
abbrev pub turned_by : ℤ → ℤ → ℤ
turned_by (pos n) z = z
turned_by (negsuc n) z = neg_ℤ z

-- the product of two counts of millionths
abbrev pub product : ℤ → ℤ → ℤ
product a b = divided (a *ℤ b) one

-- the quotient of two; none by zero
abbrev pub quotient : ℤ → ℤ → Option ℤ
quotient a (pos zero) = None
quotient a (pos (suc n)) = Some (divided (a *ℤ pos one) (suc n))
quotient a (negsuc n) = Some (divided (neg_ℤ (a *ℤ pos one)) (suc n))

abbrev pub sign_of : ℤ → ℤ
sign_of (pos zero) = pos 0
sign_of (pos (suc n)) = pos one
sign_of (negsuc n) = neg_ℤ (pos one)

abbrev pub trunc_of : ℤ → ℤ
trunc_of z = with_sign z (whole_below (unsigned_abs z))

abbrev pub floor_of : ℤ → ℤ
floor_of z = with_sign z (if is_negative z then whole_above (unsigned_abs z) else whole_below (unsigned_abs z))

abbrev pub ceil_of : ℤ → ℤ
ceil_of z = with_sign z (if is_negative z then whole_below (unsigned_abs z) else whole_above (unsigned_abs z))

abbrev pub frac_of : ℤ → ℤ
frac_of z = z -ℤ trunc_of z

-- the stored number of this count, where it is small enough to be stored
abbrev pub stored : ℤ → Option Dec
stored z = if nat_lt (unsigned_abs z) (10 ^ 15) then Some record { millionths = z } else None
