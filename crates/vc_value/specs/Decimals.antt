-- Numbers as they are written: an optional minus, digits, and optionally a point and digits.
use Rattle.std.specs.Prelude.{ℕ, ◌+◌, ◌-◌, ◌*◌, ◌^◌, ℤ, pos, neg_ℤ, Bool, true, false, ◌&&◌, ◌==◌, not, nat_le, List}
use Rattle.std.specs.Prelude.{[], ◌∷◌, length, drop, fold, position, Option, Some, None, option_map, Result, Ok, Err}
use Rattle.std.specs.Prelude.{if◌then◌else◌}
use Rattle.std.specs.List.{list_all, before_first}
use Rattle.std.specs.Char.{is_ascii_digit}
use Rattle.vc_value.specs.declared.decimal.Dec.{Dec}
use Rattle.vc_value.specs.declared.decimal.NumFault.{NumFault}
use Rattle.vc_value.specs.declared.decimal.NumFault.TheVariants.{NotANumber, TooManyDigits}

-- whether a minus stands in front
abbrev pub is_negative : List ℕ → Bool
is_negative [] = false
is_negative (byte ∷ bytes) = byte == 45

-- what follows the minus, if there is one
abbrev pub unsigned_text : List ℕ → List ℕ
unsigned_text [] = []
unsigned_text (byte ∷ bytes) = if byte == 45 then bytes else byte ∷ bytes

abbrev pub is_point : ℕ → Bool
is_point byte = byte == 46

-- what stands before the first point
abbrev pub whole_part : List ℕ → List ℕ
whole_part text = before_first is_point text

-- what follows the first point, if there is one
abbrev pub fraction_part : List ℕ → Option (List ℕ)
fraction_part text = option_map (λ at. drop (at + 1) text) (position is_point text)

-- one digit or more, and nothing else
abbrev pub are_digits : List ℕ → Bool
are_digits bytes = not (length bytes == 0) && list_all is_ascii_digit bytes

abbrev pub is_fraction : Option (List ℕ) → Bool
is_fraction None = true
is_fraction (Some digits) = are_digits digits

-- the digits from the first that isn't 0 on
abbrev pub significant : List ℕ → List ℕ
significant [] = []
significant (digit ∷ digits) = if digit == 48 then significant digits else digit ∷ digits

-- at most so many digits
abbrev pub fraction_fits : Option (List ℕ) → Bool
fraction_fits None = true
fraction_fits (Some digits) = nat_le (length digits) 6

-- the number with one digit more
abbrev pub with_digit : ℕ → ℕ → ℕ
with_digit number digit = number * 10 + (digit - 48)

-- the number that digits write
abbrev pub number_of : List ℕ → ℕ
number_of digits = fold with_digit 0 digits

-- the millionths that the digits after the point write
abbrev pub fraction_of : Option (List ℕ) → ℕ
fraction_of None = 0
fraction_of (Some digits) = number_of digits * 10 ^ (6 - length digits)

-- the millionths that the digits before the point and those after it write
abbrev pub millionths_of : List ℕ → Option (List ℕ) → ℕ
millionths_of whole fraction = number_of (significant whole) * 1000000 + fraction_of fraction

abbrev pub signed : Bool → ℕ → ℤ
signed negative n = if negative then neg_ℤ (pos n) else pos n

-- the number of these parts, or why there is none: at most nine digits count before the point, and six after it
abbrev pub number_from : Bool → List ℕ → Option (List ℕ) → Result Dec NumFault
number_from negative whole fraction =
    if are_digits whole && is_fraction fraction
    then (if nat_le (length (significant whole)) 9 && fraction_fits fraction
    then Ok record { millionths = signed negative (millionths_of whole fraction) }
    else Err TooManyDigits)
    else Err NotANumber

-- the number that a text writes, or why it writes none
abbrev pub read_number : List ℕ → Result Dec NumFault
read_number text = number_from (is_negative text) (whole_part (unsigned_text text)) (fraction_part (unsigned_text text))
