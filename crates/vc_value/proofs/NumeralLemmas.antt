-- The digits of a fraction, place by place.
use Rattle.std.proofs.Common.{◌≡◌, ℕ, suc, zero, ◌+◌, ◌/◌, ◌%◌, ◌^◌, ◌<◌, List, [], ◌∷◌, ◌++◌, sym, arith, append_assoc}
use Rattle.std.proofs.lemmas.Bool.{ne_eqb}
use Rattle.vc_value.specs.Numerals.{fraction_digits}

-- a digit more stands in front
pub digit_step : (text : List ℕ) (places units : ℕ) → 0 < units
    → text ++ fraction_digits (suc places) units
    ≡ (text ++ (48 + units / 10 ^ places) ∷ []) ++ fraction_digits places (units % 10 ^ places)
digit_step text places units some =
    rw (ne_eqb units 0 (λ e. omega (arith, e, some)))
    (sym (append_assoc text ((48 + units / 10 ^ places) ∷ []) (fraction_digits places (units % 10 ^ places))))

-- some units need a place
pub some_place : (places units : ℕ) → 0 < units → units < 10 ^ places → 0 < places
some_place zero units some below = absurd (omega (arith, some, below))
some_place (suc places) units some below = omega arith
