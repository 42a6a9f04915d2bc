-- How numbers are printed.
use Rattle.std.specs.Prelude.{ℕ, suc, zero, ◌+◌, ◌^◌, ◌/◌, ◌%◌, ◌==◌, List, [], ◌∷◌, ◌++◌, unsigned_abs, if◌then◌else◌}
use Rattle.std.specs.Int.Signed.{lt_z}
use Rattle.std.specs.Prelude.{ℤ, pos}
use Rattle.std.specs.Fmt.{decimal}
use Rattle.vc_value.specs.declared.decimal.Dec.{Dec}

-- so many units of the last of these places after the point, as digits up to the last that isn't 0
abbrev pub fraction_digits : ℕ → ℕ → List ℕ
fraction_digits zero units = []
fraction_digits (suc places) units = if units == 0 then [] else (48 + units / 10 ^ places)
    ∷ fraction_digits places (units % 10 ^ places)

-- the point and the digits after it, if there are any
abbrev pub fraction_text : ℕ → List ℕ
fraction_text millionths = if millionths == 0 then [] else 46 ∷ fraction_digits 6 millionths

-- a number that isn't negative, from its millionths: digits without leading zeros, and its fraction
abbrev pub magnitude_text : ℕ → List ℕ
magnitude_text millionths = decimal (millionths / 1000000) ++ fraction_text (millionths % 1000000)

-- a minus before a negative number
abbrev pub minus_text : ℤ → List ℕ
minus_text millionths = if lt_z millionths (pos 0) then 45 ∷ [] else []

-- how a number is printed
abbrev pub number_text : Dec → List ℕ
number_text number = minus_text number.millionths ++ magnitude_text (unsigned_abs number.millionths)
