-- The digits of a number, by its last one.
use Rattle.std.proofs.Common.{◌≡◌, ℕ, ◌+◌, ◌/◌, ◌%◌, ◌^◌, ◌<◌, ◌≤◌, List, [], ◌∷◌, ◌++◌, ap, sym, append_assoc}
use Rattle.std.proofs.lemmas.Fmt.{decimal_digit, decimal_step}
use Rattle.std.specs.Fmt.{decimal}

pub one_digit : (n : ℕ) (old : List ℕ) → n < 10 → old ++ ((48 + n) ∷ []) ≡ old ++ decimal n
one_digit n old h = ap (λ ds. old ++ ds) (sym (decimal_digit n h))

pub more_digits : (n : ℕ) (old : List ℕ) → 10 ≤ n → n < 2 ^ 64 →
    (old ++ decimal (n / 10)) ++ ((48 + n % 10) ∷ []) ≡ old ++ decimal n
more_digits n old lo hi = rw (decimal_step n lo hi, append_assoc)
