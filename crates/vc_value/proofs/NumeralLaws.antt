-- Printed numbers are read again.
use Rattle.std.proofs.Common.{◌≡◌, ℕ, suc, zero, ◌+◌, ◌-◌, ◌*◌, ◌/◌, ◌%◌, ◌^◌, ◌<◌, ◌≤◌, ℤ, pos, Bool, true, false, not}
use Rattle.std.proofs.Common.{List, [], ◌∷◌, ◌++◌, length, take, drop, fold, cond, Option, Some, None, Result, Ok, Err}
use Rattle.std.proofs.Common.{refl, ap, sym, ◌∙◌, subst, arith, length-append}
use Rattle.std.specs.Prelude.{◌==◌, ◌&&◌, nat_le, nat_lt, option_map, unsigned_abs, negsuc}
use Rattle.std.specs.List.{prefix_len, list_all, position_or_len}
use Rattle.std.specs.Char.{is_ascii_digit}
use Rattle.std.specs.Int.{IsInRange}
use Rattle.std.specs.Fmt.{decimal}
use Rattle.std.proofs.lemmas.Bool.{eqb-true, ne_eqb, leb-true, le-leb, le-ltb, lt-ltb}
use Rattle.std.proofs.lemmas.Str.Parse.{IsDigitsTest, FoldsDigits, IsNumeralModel, numerals_by_fold}
use Rattle.std.proofs.lemmas.Fmt.{digits_decimal, digits_value-decimal, decimal_nonempty, length-decimal-le}
use Rattle.std.proofs.Math.Nat.{mod-lt, div-lt_iff_lt-mul, div-add-mod', pow-suc, mul_assoc, mul_comm, add-mul}
use Rattle.std.proofs.Math.Seq.{take-append_seam, drop-append-add}
use Rattle.vc_value.specs.Decimals.{with_digit, number_of, significant, are_digits, is_fraction, fraction_fits}
use Rattle.vc_value.specs.Decimals.{fraction_of, millionths_of, number_from, read_number, signed, is_point, whole_part}
use Rattle.vc_value.specs.Decimals.{fraction_part}
use Rattle.vc_value.specs.Numerals.{fraction_digits, fraction_text, magnitude_text, minus_text, number_text}
use Rattle.vc_value.specs.declared.decimal.Dec.{Dec}
use Rattle.vc_value.specs.declared.decimal.NumFault.{NumFault}
use Rattle.vc_value.specs.declared.decimal.NumFault.TheVariants.{NotANumber, TooManyDigits}
use Rattle.vc_value.proofs.GrainLemmas.{both, both_true}
use Rattle.vc_value.proofs.PowerLemmas.{ten_pow_pos}

-- a byte that is a digit
AreDigits : List ℕ → Type 0
AreDigits digits = list_all is_ascii_digit digits ≡ true

in_range : (c : ℕ) → is_ascii_digit c ≡ true → IsInRange 48 57 c
in_range c h = let parts : (nat_le 48 c ≡ true)
    × (nat_le c 57 ≡ true) = both (nat_le 48 c) (nat_le c 57) h in (leb-true 48 c parts.0, leb-true c 57 parts.1)

is_digit : (c : ℕ) → IsInRange 48 57 c → is_ascii_digit c ≡ true
is_digit c h = both_true (nat_le 48 c) (nat_le c 57) (le-leb 48 c h.0) (le-leb c 57 h.1)

digits_test : IsDigitsTest AreDigits
unfolding AreDigits
digits_test = record {
  empty = refl;
  parts = λ c cs h. let parts : (is_ascii_digit c ≡ true)
      × (list_all is_ascii_digit cs ≡ true) = both (is_ascii_digit c) (list_all is_ascii_digit cs) h in
      (in_range c parts.0, parts.1);
  more = λ c cs h more. both_true (is_ascii_digit c) (list_all is_ascii_digit cs) (is_digit c h) more;
}

folds : FoldsDigits (λ n ds. fold with_digit n ds)
folds = record { empty = λ n. refl; more = λ n c cs h. refl }

model : IsNumeralModel AreDigits number_of
model = numerals_by_fold AreDigits digits_test (λ n ds. fold with_digit n ds) folds

-- the digits before the point
pub whole_digits : (n : ℕ) → n < 2 ^ 64 → list_all is_ascii_digit (decimal n) ≡ true
unfolding AreDigits
whole_digits n h = digits_decimal model n h

whole_value : (n : ℕ) → n < 2 ^ 64 → number_of (decimal n) ≡ n
whole_value n h = digits_value-decimal model n h

-- the digits after the point
place_digit : (units unit : ℕ) → 0 < unit → units < 10 * unit → is_ascii_digit (48 + units / unit) ≡ true
place_digit units unit some below =
    let few : units / unit < 10 = (div-lt_iff_lt-mul {k = unit} {x = units} {y = 10} some).1 below in
    is_digit (48 + units / unit) (omega arith, omega (arith, few))

pub fraction_are_digits : (places units : ℕ) → units < 10 ^ places
    → list_all is_ascii_digit (fraction_digits places units) ≡ true
fraction_are_digits zero units below = refl
fraction_are_digits (suc places) units below =
    let unit = 10 ^ places in
    let one : units < 10 * unit = subst (λ n. units < n) (pow-suc 10 places ∙ mul_comm unit 10) below in
    elim (units == 0) as
    (λ b. list_all is_ascii_digit (cond b [] ((48 + units / unit) ∷ fraction_digits places (units % unit)))
    ≡ true) [
      | true ↦ refl
      | false ↦ both_true (is_ascii_digit (48 + units / unit))
          (list_all is_ascii_digit (fraction_digits places (units % unit)))
          (place_digit units unit (ten_pow_pos places) one)
          (fraction_are_digits places (units % unit) (mod-lt units (ten_pow_pos places)))
    ]

pub fraction_fit : (places units : ℕ) → length (fraction_digits places units) ≤ places
fraction_fit zero units = omega arith
fraction_fit (suc places) units =
    elim (units == 0) as
    (λ b. length (cond b [] ((48 + units / 10 ^ places) ∷ fraction_digits places (units % 10 ^ places))) ≤ suc places) [
      | true ↦ omega arith
      | false ↦ omega (arith, fraction_fit places (units % 10 ^ places))
    ]

-- a digit more before the units that are left
shifted_units : (number digit unit rest units : ℕ) → digit * unit + rest ≡ units
    → (number * 10 + digit) * unit + rest ≡ number * (unit * 10) + units
shifted_units number digit unit rest units same =
    let split : (number * 10 + digit) * unit ≡ number * 10 * unit + digit * unit = add-mul (number * 10) digit unit in
    let turned : number * 10 * unit ≡ number * (unit * 10)
    = mul_assoc number 10 unit ∙ ap (λ k. number * k) (mul_comm 10 unit) in
    omega (arith, split, turned, same)

fraction_value : (places units before : ℕ) → units < 10 ^ places
    → fold with_digit before (fraction_digits places units) * 10 ^ (places - length (fraction_digits places units))
    ≡ before * 10 ^ places + units
fraction_value zero units before below = omega (arith, below)
fraction_value (suc places) units before below =
    let unit = 10 ^ places in
    let rest = units % unit in
    let digit = units / unit in
    let more = fraction_digits places rest in
    let next : ℕ = with_digit before (48 + digit) in
    let fewer : suc places - suc (length more) ≡ places - length more = omega arith in
    let same : next ≡ before * 10 + digit = omega arith in
    elim (units == 0) as
    (λ b. (units == 0) ≡ b
    → fold with_digit before (cond b [] ((48 + units / 10 ^ places) ∷ fraction_digits places (units % 10 ^ places)))
    * 10 ^ (suc places - length (cond b [] ((48 + units / 10 ^ places) ∷ fraction_digits places (units % 10 ^ places))))
    ≡ before * 10 ^ suc places + units) [
      | true ↦ λ e.
          let none : units ≡ 0 = eqb-true units 0 e in
          let all : suc places - 0 ≡ suc places = omega arith in
          ap (λ k. before * 10 ^ k) all ∙ omega (arith, none)
      | false ↦ λ e.
          ap (λ k. fold with_digit next more * 10 ^ k) fewer
          ∙ fraction_value places rest next (mod-lt units (ten_pow_pos places))
          ∙ ap (λ n. n * unit + rest) same
          ∙ shifted_units before digit unit rest units (div-add-mod' units unit)
          ∙ ap (λ p. before * p + units) (sym (pow-suc 10 places))
    ] refl

-- zeros in front don't count
significant_value : (digits : List ℕ) → number_of (significant digits) ≡ number_of digits
significant_value [] = refl
significant_value (d ∷ ds) =
    elim (d == 48) as (λ b. (d == 48) ≡ b → number_of (cond b (significant ds) (d ∷ ds)) ≡ number_of (d ∷ ds)) [
      | true ↦ λ e. significant_value ds ∙ ap (λ d. fold with_digit (with_digit 0 d) ds) (sym (eqb-true d 48 e))
      | false ↦ λ e. refl
    ] refl

significant_fit : (digits : List ℕ) → length (significant digits) ≤ length digits
significant_fit [] = omega arith
significant_fit (d ∷ ds) = elim (d == 48) as (λ b. length (cond b (significant ds) (d ∷ ds)) ≤ length (d ∷ ds)) [
  | true ↦ omega (arith, significant_fit ds)
  | false ↦ omega arith
]

-- a run of elements that pass, before one that doesn't
pub prefix_stops : (p : ℕ → Bool) (front rest : List ℕ) → list_all p front ≡ true → prefix_len p rest ≡ 0
    → prefix_len p (front ++ rest) ≡ length front
prefix_stops p [] rest all none = none
prefix_stops p (byte ∷ front) rest all none =
    let passes : (p byte ≡ true) × (list_all p front ≡ true) = both (p byte) (list_all p front) all in
    let more : prefix_len p (front ++ rest) ≡ length front = prefix_stops p front rest passes.1 none in
    rw passes.0 (omega (arith, more))

-- a byte that passes a test isn't one that doesn't
pub apart : (p : ℕ → Bool) (byte other : ℕ) → p byte ≡ true → p other ≡ false → (byte == other) ≡ false
apart p byte other passes fails = elim (byte == other) as (λ b. (byte == other) ≡ b → (byte == other) ≡ false) [
  | true ↦ λ e. absurd (let same : byte ≡ other = eqb-true byte other e in cc)
  | false ↦ λ e. e
] refl

no_point : (digits : List ℕ) → list_all is_ascii_digit digits ≡ true → list_all (λ b. not (is_point b)) digits ≡ true
no_point [] all = refl
no_point (d ∷ ds) all =
    let parts : (is_ascii_digit d ≡ true) × (list_all is_ascii_digit ds ≡ true)
    = both (is_ascii_digit d) (list_all is_ascii_digit ds) all in
    rw (apart is_ascii_digit d 46 parts.0 refl) (no_point ds parts.1)

-- the digits after the point, if there are any
fraction_digits_of : ℕ → ℕ → Option (List ℕ)
fraction_digits_of places units = cond (units == 0) None (Some (fraction_digits places units))

pointed : ℕ → ℕ → List ℕ
pointed places units = cond (units == 0) [] (46 ∷ fraction_digits places units)

point_first : (places units : ℕ) → prefix_len (λ b. not (is_point b)) (pointed places units) ≡ 0
unfolding pointed
point_first places units =
    elim (units == 0) as (λ b. prefix_len (λ b. not (is_point b)) (cond b [] (46 ∷ fraction_digits places units)) ≡ 0) [
      | true ↦ refl
      | false ↦ refl
    ]

point_place : (whole : List ℕ) (places units : ℕ) → list_all is_ascii_digit whole ≡ true
    → position_or_len is_point (whole ++ pointed places units) ≡ length whole
point_place whole places units all =
    prefix_stops (λ b. not (is_point b)) whole (pointed places units) (no_point whole all) (point_first places units)

whole_again : (whole : List ℕ) (places units : ℕ) → list_all is_ascii_digit whole ≡ true
    → whole_part (whole ++ pointed places units) ≡ whole
whole_again whole places units all =
    ap (λ n. take n (whole ++ pointed places units)) (point_place whole places units all)
    ∙ take-append_seam whole (pointed places units)

fraction_again : (whole : List ℕ) (places units : ℕ) → list_all is_ascii_digit whole ≡ true
    → fraction_part (whole ++ pointed places units) ≡ fraction_digits_of places units
unfolding pointed fraction_digits_of
fraction_again whole places units all =
    let found : (b : Bool) → List ℕ = λ b. whole ++ cond b [] (46 ∷ fraction_digits places units) in
    let part : ℕ → List ℕ → Option (List ℕ)
    = λ n text. option_map (λ at. drop (at + 1) text) (cond (nat_lt n (length text)) (Some n) None) in
    ap (λ n. part n (found (units == 0))) (point_place whole places units all)
    ∙ elim (units == 0) as (λ b. part (length whole) (found b) ≡ cond b None (Some (fraction_digits places units))) [
      | true ↦ ap (λ b. option_map (λ at. drop (at + 1) (whole ++ [])) (cond b (Some (length whole)) None))
          (le-ltb (length whole) (length (whole ++ [])) (omega (arith, length-append {A = ℕ})))
      | false ↦
          let digits = fraction_digits places units in
          ap (λ b. option_map (λ at. drop (at + 1) (whole ++ 46 ∷ digits)) (cond b (Some (length whole)) None))
          (lt-ltb (length whole) (length (whole ++ 46 ∷ digits)) (omega (arith, length-append {A = ℕ})))
          ∙ ap Some (drop-append-add whole (46 ∷ digits) 1)
    ]

-- a fraction that isn't 0 has digits
pub fraction_nonempty : (places units : ℕ) → (units == 0) ≡ false
    → not (length (fraction_digits (suc places) units) == 0) ≡ true
fraction_nonempty places units e =
    rw e (ap not (ne_eqb (suc (length (fraction_digits places (units % 10 ^ places)))) 0 (λ e. omega (arith, e))))

-- the fraction's digits are some, and fit
fraction_some : (places units : ℕ) → units < 10 ^ suc places → suc places ≤ 6
    → (is_fraction (fraction_digits_of (suc places) units) ≡ true)
    × (fraction_fits (fraction_digits_of (suc places) units) ≡ true)
unfolding fraction_digits_of
fraction_some places units below few =
    let digits = fraction_digits (suc places) units in
    elim (units == 0) as
    (λ b. (units == 0) ≡ b
    → (is_fraction (cond b None (Some digits)) ≡ true) × (fraction_fits (cond b None (Some digits)) ≡ true)) [
      | true ↦ λ e. (refl, refl)
      | false ↦ λ e. (
        both_true (not (length digits == 0)) (list_all is_ascii_digit digits) (fraction_nonempty places units e)
            (fraction_are_digits (suc places) units below),
        le-leb (length digits) 6 (omega (arith, fraction_fit (suc places) units, few)),
      )
    ] refl

fraction_worth : (units : ℕ) → units < 10 ^ 6 → fraction_of (fraction_digits_of 6 units) ≡ units
unfolding fraction_digits_of
fraction_worth units below =
    elim (units == 0) as (λ b. (units == 0) ≡ b → fraction_of (cond b None (Some (fraction_digits 6 units))) ≡ units) [
      | true ↦ λ e. sym (eqb-true units 0 e)
      | false ↦ λ e. let plain : 0 * 10 ^ 6 + units ≡ units = omega arith in fraction_value 6 units 0 below ∙ plain
    ] refl

-- the parts of a printed number are read again
parts_read : (negative : Bool) (whole units : ℕ) → whole < 10 ^ 9 → units < 10 ^ 6
    → number_from negative (decimal whole) (fraction_digits_of 6 units)
    ≡ Ok record { millionths = signed negative (whole * 1000000 + units) }
parts_read negative whole units small below =
    let fits : whole < 2 ^ 64 = omega (arith, small) in
    let digits = decimal whole in
    let fraction = fraction_digits_of 6 units in
    let read : ℕ → Result Dec NumFault = λ n. Ok record { millionths = signed negative n } in
    let good : (is_fraction fraction ≡ true) × (fraction_fits fraction ≡ true)
    = fraction_some 5 units below (omega arith) in
    let some : are_digits digits ≡ true
    = both_true (not (length digits == 0)) (list_all is_ascii_digit digits)
    (ap not (ne_eqb (length digits) 0 (λ e. omega (arith, e, decimal_nonempty whole fits))))
    (whole_digits whole fits) in
    let few : nat_le (length (significant digits)) 9 ≡ true
    = le-leb (length (significant digits)) 9
    (omega (arith, significant_fit digits, length-decimal-le 9 whole (omega arith) small fits)) in
    ap (λ b. cond b (cond (nat_le (length (significant digits)) 9 && fraction_fits fraction)
    (read (millionths_of digits fraction)) (Err TooManyDigits)) (Err NotANumber))
    (both_true (are_digits digits) (is_fraction fraction) some good.0)
    ∙ ap (λ b. cond b (read (millionths_of digits fraction)) (Err TooManyDigits))
    (both_true (nat_le (length (significant digits)) 9) (fraction_fits fraction) few good.1)
    ∙ ap (λ n. read (n * 1000000 + fraction_of fraction)) (significant_value digits ∙ whole_value whole fits)
    ∙ ap (λ m. read (whole * 1000000 + m)) (fraction_worth units below)

pub small_whole : (n : ℕ) → n < 10 ^ 15 → n / 1000000 < 10 ^ 9
small_whole n h = (div-lt_iff_lt-mul {k = 1000000} {x = n} {y = 10 ^ 9} (omega arith)).1 h

-- a number's magnitude is read again
magnitude_read : (negative : Bool) (n : ℕ) → n < 10 ^ 15
    → number_from negative (whole_part (magnitude_text n)) (fraction_part (magnitude_text n))
    ≡ Ok record { millionths = signed negative n }
unfolding pointed
magnitude_read negative n h =
    let whole = n / 1000000 in
    let units = n % 1000000 in
    let small : whole < 10 ^ 9 = small_whole n h in
    let digits : list_all is_ascii_digit (decimal whole) ≡ true = whole_digits whole (omega (arith, small)) in
    ap (λ w. number_from negative w (fraction_part (magnitude_text n))) (whole_again (decimal whole) 6 units digits)
    ∙ ap (λ f. number_from negative (decimal whole) f) (fraction_again (decimal whole) 6 units digits)
    ∙ parts_read negative whole units small (mod-lt n (omega arith))
    ∙ ap (λ m. Ok record { millionths = signed negative m }) (div-add-mod' n 1000000)

digits_begin : (digits : List ℕ) → 0 < length digits → list_all is_ascii_digit digits ≡ true
    → (c : ℕ) × (cs : List ℕ) × (digits ≡ c ∷ cs) × (is_ascii_digit c ≡ true)
digits_begin [] some all = absurd (omega (arith, some))
digits_begin (c ∷ cs) some all = (c, cs, refl, (both (is_ascii_digit c) (list_all is_ascii_digit cs) all).0)

-- a magnitude begins with a digit
pub magnitude_begins : (n : ℕ) → n < 10 ^ 15
    → (c : ℕ) × (cs : List ℕ) × (magnitude_text n ≡ c ∷ cs) × (is_ascii_digit c ≡ true)
magnitude_begins n h =
    let fits : n / 1000000 < 2 ^ 64 = omega (arith, small_whole n h) in
    let first
    = digits_begin (decimal (n / 1000000)) (decimal_nonempty (n / 1000000) fits)
    (whole_digits (n / 1000000) fits) in
    (first.0, first.1 ++ fraction_text (n % 1000000), ap (λ w. w ++ fraction_text (n % 1000000)) first.2, first.3)

unsigned_read : (text : List ℕ) (c : ℕ) (cs : List ℕ) → text ≡ c ∷ cs → is_ascii_digit c ≡ true
    → read_number text ≡ number_from false (whole_part text) (fraction_part text)
unsigned_read text c cs same digit =
    let Read : List ℕ → Type 0 = λ t. read_number t ≡ number_from false (whole_part t) (fraction_part t) in
    subst Read (sym same)
    (ap (λ b. number_from b (whole_part (cond b cs (c ∷ cs))) (fraction_part (cond b cs (c ∷ cs))))
    (apart is_ascii_digit c 45 digit refl))

pub magnitude_again : (n : ℕ) → n < 10 ^ 15 → read_number (magnitude_text n) ≡ Ok record { millionths = pos n }
magnitude_again n h =
    let first = magnitude_begins n h in
    unsigned_read (magnitude_text n) first.0 first.1 first.2 first.3 ∙ magnitude_read false n h

signed_read : (z : ℤ) → unsigned_abs z < 10 ^ 15
    → read_number (minus_text z ++ magnitude_text (unsigned_abs z)) ≡ Ok record { millionths = z }
signed_read (pos n) h =
    ap (λ b. read_number (cond b (45 ∷ []) [] ++ magnitude_text n)) (le-ltb n 0 (omega arith)) ∙ magnitude_again n h
signed_read (negsuc n) h = magnitude_read true (suc n) h

-- a printed number is read again
pub printed_read : (d : Dec) → unsigned_abs d.millionths < 10 ^ 15 → read_number (number_text d) ≡ Ok d
printed_read d h = signed_read d.millionths h
