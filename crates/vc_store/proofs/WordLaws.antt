-- Names, listed texts and printed numbers of a valid plan are UTF-8.
use Rattle.std.proofs.Common.{◌≡◌, ℕ, zero, suc, ◌<◌, ◌≤◌, ◌/◌, ◌%◌, ◌^◌, Bool, true, false, cond, List, [], ◌∷◌}
use Rattle.std.proofs.Common.{length}
use Rattle.std.proofs.Common.{refl, arith, inl, inr, IsUtf8}
use Rattle.std.specs.Prelude.{◌||◌, ◌==◌, nat_lt, nat_le, slice_get, Option, None, Some, unsigned_abs, pos}
use Rattle.std.specs.Fmt.{decimal}
use Rattle.std.specs.Char.{is_ascii_alphabetic, is_ascii_alphanumeric, is_ascii_digit}
use Rattle.std.specs.Int.{is_in_range}
use Rattle.std.specs.Int.Signed.{lt_z}
use Rattle.std.specs.List.{list_all}
use Rattle.std.proofs.lemmas.Bool.{and_from, and_parts, eqb-true, leb-true, lt-ltb, or_cases}
use Rattle.std.proofs.Math.Nat.{mod-lt}
use Rattle.vc_value.specs.declared.decimal.Dec.{Dec}
use Rattle.vc_value.specs.Names.{begins_name, ends_name, is_name, is_name_byte}
use Rattle.vc_value.specs.Numerals.{fraction_digits, fraction_text, magnitude_text, minus_text, number_text}
use Rattle.vc_value.proofs.NumeralLaws as numerals
use Rattle.vc_plan.specs.declared.plans.Characteristic.{Characteristic}
use Rattle.vc_plan.specs.declared.plans.Plan.{Plan}
use Rattle.vc_plan.specs.Spelling.{is_upper, is_upper_name}
use Rattle.vc_plan.specs.Valid.{IsValid}
use Rattle.vc_show_rows.specs.Texts.{name_in}
use Rattle.vc_store_forms.proofs.AsciiLaws.{decimal_plain, is_plain, plain_append, plain_utf8}
use Rattle.vc_store.specs.Saving.{text_in}

in_range : (low high b : ℕ) → high < 128 → is_in_range low high b ≡ true → is_plain b ≡ true
in_range low high b few h =
    let upto : b ≤ high = leb-true b high (and_parts (nat_le low b) (nat_le b high) h).1 in
    lt-ltb b 128 (omega (arith, upto, few))

letter : (b : ℕ) → is_ascii_alphanumeric b ≡ true → is_plain b ≡ true
letter b h =
    elim (or_cases (is_in_range 48 57 b || is_in_range 65 90 b) (is_in_range 97 122 b) h) [
      | inl first ↦ elim (or_cases (is_in_range 48 57 b) (is_in_range 65 90 b) first) [
        | inl digit ↦ in_range 48 57 b (omega arith) digit
        | inr upper ↦ in_range 65 90 b (omega arith) upper
      ]
      | inr lower ↦ in_range 97 122 b (omega arith) lower
    ]

underscore : (b : ℕ) → (b == 95) ≡ true → is_plain b ≡ true
underscore b h = let same : b ≡ 95 = eqb-true b 95 h in lt-ltb b 128 (omega (arith, same))

name_byte : (b : ℕ) → is_name_byte b ≡ true → is_plain b ≡ true
name_byte b h = elim (or_cases (is_ascii_alphanumeric b) (b == 95) h) [
  | inl alphanumeric ↦ letter b alphanumeric
  | inr line ↦ underscore b line
]

first_byte : (b : ℕ) → begins_name b ≡ true → is_plain b ≡ true
first_byte b h = elim (or_cases (is_ascii_alphabetic b) (b == 95) h) [
  | inl alphabetic ↦ elim (or_cases (is_in_range 65 90 b) (is_in_range 97 122 b) alphabetic) [
    | inl upper ↦ in_range 65 90 b (omega arith) upper
    | inr lower ↦ in_range 97 122 b (omega arith) lower
  ]
  | inr line ↦ underscore b line
]

all_plain : (p : ℕ → Bool) → ((b : ℕ) → p b ≡ true → is_plain b ≡ true) → (bytes : List ℕ)
    → list_all p bytes ≡ true → list_all is_plain bytes ≡ true
all_plain p plain [] h = refl
all_plain p plain (b ∷ bytes) h =
    let parts = and_parts (p b) (list_all p bytes) h in
    and_from (is_plain b) (list_all is_plain bytes) (plain b parts.0) (all_plain p plain bytes parts.1)

name_plain : (name : List ℕ) → is_upper_name name ≡ true → list_all is_plain name ≡ true
name_plain [] h = refl
name_plain (b ∷ bytes) h =
    let name = (and_parts (is_name (b ∷ bytes)) (is_upper (b ∷ bytes)) h).0 in
    let parts = and_parts (begins_name b) (ends_name bytes) name in
    and_from (is_plain b) (list_all is_plain bytes) (first_byte b parts.0)
    (all_plain is_name_byte name_byte bytes
    (and_parts (nat_lt (length bytes) 30) (list_all is_name_byte bytes) parts.1).1)

pub upper_name_utf8 : (name : List ℕ) → is_upper_name name ≡ true → IsUtf8 name
upper_name_utf8 name h = plain_utf8 name (name_plain name h)

-- each name of a characteristic is; so is a listed text
named_utf8 : (characteristics : List Characteristic) (c : ℕ)
    → list_all (λ characteristic. is_upper_name characteristic.name) characteristics ≡ true
    → IsUtf8 (name_in (slice_get characteristics c))
named_utf8 [] c h = plain_utf8 [] refl
named_utf8 (first ∷ more) zero h =
    upper_name_utf8 first.name (and_parts (is_upper_name first.name)
    (list_all (λ characteristic. is_upper_name characteristic.name) more) h).0
named_utf8 (first ∷ more) (suc c) h =
    named_utf8 more c (and_parts (is_upper_name first.name)
    (list_all (λ characteristic. is_upper_name characteristic.name) more) h).1

pub characteristic_utf8 : (plan : Plan) (c : ℕ) → IsValid plan
    → IsUtf8 (name_in (slice_get plan.characteristics c))
characteristic_utf8 plan c valid = named_utf8 plan.characteristics c valid.names

pub text_utf8 : (plan : Plan) (t : ℕ) → IsValid plan → IsUtf8 (text_in (slice_get plan.texts t))
text_utf8 plan t valid = by (slice_get plan.texts t) refl
  where
    by : (o : Option (List ℕ)) → slice_get plan.texts t ≡ o → IsUtf8 (text_in o)
    by None h = plain_utf8 [] refl
    by (Some text) h = valid.utf8 t text h

digit_plain : (b : ℕ) → is_ascii_digit b ≡ true → is_plain b ≡ true
digit_plain b h = in_range 48 57 b (omega arith) h

minus_plain : (number : Dec) → list_all is_plain (minus_text number.millionths) ≡ true
minus_plain number = by (lt_z number.millionths (pos 0))
  where
    by : (b : Bool) → list_all is_plain (cond b (45 ∷ []) []) ≡ true
    by true = refl
    by false = refl

fraction_plain : (units : ℕ) → units < 10 ^ 6 → list_all is_plain (fraction_text units) ≡ true
fraction_plain units below = by (units == 0)
  where
    by : (b : Bool) → list_all is_plain (cond b [] (46 ∷ fraction_digits 6 units)) ≡ true
    by true = refl
    by false = all_plain is_ascii_digit digit_plain (fraction_digits 6 units)
        (numerals.fraction_are_digits 6 units below)

pub number_utf8 : (number : Dec) → IsUtf8 (number_text number)
number_utf8 number =
    let magnitude = unsigned_abs number.millionths in
    plain_utf8 (number_text number) (plain_append (minus_text number.millionths) (magnitude_text magnitude)
    (minus_plain number)
    (plain_append (decimal (magnitude / 1000000)) (fraction_text (magnitude % 1000000))
    (decimal_plain (magnitude / 1000000)) (fraction_plain (magnitude % 1000000) (mod-lt magnitude (omega arith)))))
