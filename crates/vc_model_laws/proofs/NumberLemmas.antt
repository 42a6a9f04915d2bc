-- A number that a text writes has at most nine digits before the point and six after it.
use Rattle.std.proofs.Common.{◌≡◌, ℕ, zero, suc, ◌+◌, ◌-◌, ◌*◌, ◌^◌, ◌<◌, ◌≤◌, Bool, true, false, ◌&&◌}
use Rattle.std.proofs.Common.{nat_lt, nat_le, List, [], ◌∷◌, length, Option, Some, None, Ok, Err, if◌then◌else◌}
use Rattle.std.proofs.Common.{refl, ap, subst, ◌∙◌, arith}
use Rattle.std.specs.Prelude.{◌==◌, fold, not, unsigned_abs}
use Rattle.std.specs.List.{list_all}
use Rattle.std.specs.Result.{result_ok}
use Rattle.std.specs.Char.{is_ascii_digit}
use Rattle.std.proofs.Math.Nat.{pow-suc}
use Rattle.std.proofs.lemmas.Bool.{and_parts, leb-true, lt-ltb}
use Rattle.std.proofs.lemmas.Bool.Decides.{nat_tests}
use Rattle.vc_value.specs.Decimals.{is_negative, unsigned_text, whole_part, fraction_part, are_digits, is_fraction}
use Rattle.vc_value.specs.Decimals.{significant, fraction_fits}
use Rattle.vc_value.specs.Decimals.{with_digit, number_of, fraction_of, millionths_of, signed, number_from, read_number}
use Rattle.vc_value.specs.declared.decimal.NumFault.TheVariants.{NotANumber, TooManyDigits}
use Rattle.vc_value.proofs.DigitLemmas.{significant_all, below_a_million}
use Rattle.vc_model_laws.specs.Numbers.{is_small}
use Rattle.vc_model_laws.proofs.Holding.{each}

-- digits write a number below a power of ten
digit_most : (d : ℕ) → is_ascii_digit d ≡ true → d - 48 ≤ 9
digit_most d h = grind (arith, nat_tests)

one_digit : (n k d : ℕ) → n < 10 ^ k → d ≤ 9 → n * 10 + d < 10 ^ suc k
one_digit n k d below few = let e = pow-suc 10 k in omega (arith, e, below, few)

digits_below : (n k : ℕ) (digits : List ℕ) → n < 10 ^ k → list_all is_ascii_digit digits ≡ true
    → fold with_digit n digits < 10 ^ (k + length digits)
digits_below n k [] below all = subst (λ (m : ℕ). n < 10 ^ m) (plus_none k) below
  where
    plus_none : (m : ℕ) → m ≡ m + 0
    plus_none m = omega arith
digits_below n k (d ∷ digits) below all =
    let parts = and_parts (is_ascii_digit d) (list_all is_ascii_digit digits) all in
    subst (λ (m : ℕ). fold with_digit (with_digit n d) digits < 10 ^ m) (moved k (length digits))
    (digits_below (with_digit n d) (suc k) digits (one_digit n k (d - 48) below (digit_most d parts.0)) parts.1)
  where
    moved : (m n : ℕ) → suc m + n ≡ m + suc n
    moved m n = omega arith

number_below : (digits : List ℕ) → list_all is_ascii_digit digits ≡ true → number_of digits < 10 ^ length digits
number_below digits all = subst (λ (m : ℕ). number_of digits < 10 ^ m) (none_plus (length digits))
    (digits_below 0 0 digits (omega arith) all)
  where
    none_plus : (m : ℕ) → 0 + m ≡ m
    none_plus m = omega arith

-- a power of ten is no more than a later one
power_most : (m n : ℕ) → 10 ^ n ≤ 10 ^ (m + n)
power_most zero n = subst (λ (k : ℕ). 10 ^ n ≤ 10 ^ k) (none_plus n) (same (10 ^ n))
  where
    none_plus : (m : ℕ) → m ≡ 0 + m
    none_plus m = omega arith

    same : (k : ℕ) → k ≤ k
    same k = omega arith
power_most (suc m) n =
    let e = pow-suc 10 (m + n) in let less = power_most m n in
    subst (λ (k : ℕ). 10 ^ n ≤ 10 ^ k) (one_more m n)
    (let most : 10 ^ n ≤ 10 ^ suc (m + n) = omega (arith, e, less) in most)
  where
    one_more : (m n : ℕ) → suc (m + n) ≡ suc m + n
    one_more m n = omega arith

nine_digits : (digits : List ℕ) → list_all is_ascii_digit digits ≡ true → length digits ≤ 9 → number_of digits < 10 ^ 9
nine_digits digits all few =
    let below = number_below digits all in
    let most = power_most (9 - length digits) (length digits) in
    let nine : 9 - length digits + length digits ≡ 9 = omega (arith, few) in
    let bound : 10 ^ length digits ≤ 10 ^ 9 = subst (λ (k : ℕ). 10 ^ length digits ≤ 10 ^ k) nine most in
    below_most (number_of digits) (10 ^ length digits) (10 ^ 9) below bound
  where
    below_most : (a b c : ℕ) → a < b → b ≤ c → a < c
    below_most a b c h g = omega (arith, h, g)

-- what the digits after the point write
fraction_below : (fraction : Option (List ℕ)) → is_fraction fraction ≡ true → fraction_fits fraction ≡ true
    → fraction_of fraction < 10 ^ 6
fraction_below None f g = omega arith
fraction_below (Some digits) f g =
    below_a_million (number_of digits) (length digits)
    (number_below digits (and_parts (not (length digits == 0)) (list_all is_ascii_digit digits) f).1)
    (leb-true (length digits) 6 g)

-- a sign changes no size
sign_size : (negative : Bool) (n : ℕ) → unsigned_abs (signed negative n) ≡ n
sign_size true zero = refl
sign_size true (suc n) = refl
sign_size false n = refl

joined_below : (a f : ℕ) → a < 10 ^ 9 → f < 10 ^ 6 → a * 1000000 + f < 10 ^ 15
joined_below a f h g = omega (arith, h, g)

number_small : (negative : Bool) (whole : List ℕ) (fraction : Option (List ℕ))
    → each is_small (result_ok (number_from negative whole fraction)) ≡ true
number_small negative whole fraction =
    by (are_digits whole && is_fraction fraction) refl
    (nat_le (length (significant whole)) 9 && fraction_fits fraction) refl
  where
    by : (b : Bool) → (are_digits whole && is_fraction fraction) ≡ b → (c : Bool)
        → (nat_le (length (significant whole)) 9 && fraction_fits fraction) ≡ c
        → each is_small (result_ok (if b then (if c then Ok record
        { millionths = signed negative (millionths_of whole fraction) }
        else Err TooManyDigits) else Err NotANumber)) ≡ true
    by true is true fits =
        let digits = and_parts (are_digits whole) (is_fraction fraction) is in
        let few = and_parts (nat_le (length (significant whole)) 9) (fraction_fits fraction) fits in
        let all = (and_parts (not (length whole == 0)) (list_all is_ascii_digit whole) digits.0).1 in
        let below = nine_digits (significant whole) (significant_all is_ascii_digit whole all)
        (leb-true (length (significant whole)) 9 few.0) in
        let small = joined_below (number_of (significant whole)) (fraction_of fraction) below
        (fraction_below fraction digits.1 few.1) in
        ap (λ n. nat_lt n (10 ^ 15)) (sign_size negative (millionths_of whole fraction))
        ∙ lt-ltb (millionths_of whole fraction) (10 ^ 15) small
    by true is false fits = refl
    by false is c fits = refl

pub read_small : (word : List ℕ) → each is_small (result_ok (read_number word)) ≡ true
read_small word = number_small (is_negative word) (whole_part (unsigned_text word)) (fraction_part (unsigned_text word))
