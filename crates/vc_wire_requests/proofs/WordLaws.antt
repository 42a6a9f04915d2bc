-- The words of requests: none has a space, names in upper case stay names, and an instance's number is written as it
-- was read.
use Rattle.std.proofs.Common.{◌≡◌, ℕ, suc, ◌+◌, ◌<◌, ◌≤◌, ◌^◌, Bool, true, false, cond, not, ◌&&◌, ◌||◌, List, [], ◌∷◌}
use Rattle.std.proofs.Common.{◌++◌, length, take, drop, fold, refl, sym, ap, ◌∙◌, arith}
use Rattle.std.specs.Prelude.{None, Some, nat_le, nat_lt, ◌==◌, decimal}
use Rattle.std.specs.Char.{is_ascii_digit, to_ascii_uppercase}
use Rattle.std.specs.Int.{IsInRange}
use Rattle.std.specs.List.{list_all, position_or_len}
use Rattle.std.specs.Option.{option_map}
use Rattle.std.specs.Str.{str_to_ascii_uppercase}
use Rattle.std.proofs.lemmas.Bool.{and_from, and_parts, eqb-true, eq-eqb, le-leb, leb-true, lt-ltb}
use Rattle.std.proofs.lemmas.Bool.Decides.{nat_tests}
use Rattle.std.proofs.lemmas.Fmt.{decimal-digits_value}
use Rattle.std.proofs.lemmas.List.{length-map}
use Rattle.std.proofs.lemmas.Str.Ascii.{uppercase_is, uppercase-uppercase}
use Rattle.std.proofs.lemmas.Str.Parse.{FoldsDigits, IsDigitsTest, IsNumeralModel, digits_value_short, numerals_by_fold}
use Rattle.vc_value.specs.Decimals.{are_digits, number_of, with_digit}
use Rattle.vc_value.specs.Names.{begins_name, ends_name, is_name, is_name_byte, is_session_byte, is_session_name}
use Rattle.vc_wire_requests.specs.Requests.{cut_at_space, is_index, spaced}

-- no byte of the word is a space
abbrev pub is_unspaced : List ℕ → Bool
is_unspaced word = list_all (λ byte. not (byte == 32)) word

-- a word and what follows its space are cut there
space_behind : (word more : List ℕ) → is_unspaced word ≡ true
    → position_or_len (λ byte. byte == 32) (word ++ 32 ∷ more) ≡ length word
space_behind [] more h = refl
space_behind (byte ∷ word) more h =
    let parts = and_parts (not (byte == 32)) (is_unspaced word) h in
    by (byte == 32) parts.0 (space_behind word more parts.1)
  where
    by : (b : Bool) → not b ≡ true → position_or_len (λ x. x == 32) (word ++ 32 ∷ more) ≡ length word
        → cond (not b) (1 + position_or_len (λ x. x == 32) (word ++ 32 ∷ more)) 0 ≡ suc (length word)
    by true e rest = absurd (cc e)
    by false e rest = omega (arith, rest)

front : (word more : List ℕ) → take (length word) (word ++ 32 ∷ more) ≡ word
front [] more = refl
front (byte ∷ word) more = ap (λ bytes. byte ∷ bytes) (front word more)

behind : (word more : List ℕ) → drop (length word + 1) (word ++ 32 ∷ more) ≡ more
behind [] more = refl
behind (byte ∷ word) more =
    let next : length (byte ∷ word) + 1 ≡ suc (length word + 1) = omega arith in
    ap (λ n. drop n (byte ∷ word ++ 32 ∷ more)) next ∙ behind word more

within : (word more : List ℕ) → length word < length (word ++ 32 ∷ more)
within [] more = omega arith
within (byte ∷ word) more = omega (arith, within word more)

pub spaced_is_cut : (word more : List ℕ) → is_unspaced word ≡ true → cut_at_space (spaced word more) ≡ Some (word, more)
spaced_is_cut word more h =
    let line = word ++ 32 ∷ more in
    ap (λ n. option_map (λ at. (take at line, drop (at + 1) line)) (cond (nat_lt n (length line)) (Some n) None))
    (space_behind word more h)
    ∙ ap (λ b. option_map (λ at. (take at line, drop (at + 1) line)) (cond b (Some (length word)) None))
    (lt-ltb (length word) (length line) (within word more))
    ∙ ap (λ bytes. Some (bytes, drop (length word + 1) line)) (front word more)
    ∙ ap (λ bytes. Some (word, bytes)) (behind word more)

-- a test that each byte of a word passes, where it passes a sharper one
all_grow : (p q : ℕ → Bool) → ((byte : ℕ) → p byte ≡ true → q byte ≡ true) → (word : List ℕ) → list_all p word ≡ true
    → list_all q word ≡ true
all_grow p q more [] h = refl
all_grow p q more (byte ∷ word) h =
    let parts = and_parts (p byte) (list_all p word) h in
    and_from (q byte) (list_all q word) (more byte parts.0) (all_grow p q more word parts.1)

-- a byte that passes a test which a space doesn't is no space
no_space : (test : ℕ → Bool) → test 32 ≡ false → (byte : ℕ) → test byte ≡ true → not (byte == 32) ≡ true
no_space test fails byte h = by (byte == 32) refl
  where
    by : (b : Bool) → (byte == 32) ≡ b → not b ≡ true
    by true e = absurd (cc (sym fails ∙ sym (ap test (eqb-true byte 32 e)) ∙ h))
    by false e = refl

pub session_unspaced : (word : List ℕ) → is_session_name word ≡ true → is_unspaced word ≡ true
session_unspaced word h =
    all_grow is_session_byte (λ byte. not (byte == 32)) (no_space is_session_byte refl) word
    (and_parts (nat_lt 0 (length word) && nat_le (length word) 40) (list_all is_session_byte word) h).1

pub name_unspaced : (word : List ℕ) → is_name word ≡ true → is_unspaced word ≡ true
name_unspaced [] h = refl
name_unspaced (first ∷ more) h =
    let parts = and_parts (begins_name first) (ends_name more) h in
    and_from (not (first == 32)) (is_unspaced more) (no_space begins_name refl first parts.0)
    (all_grow is_name_byte (λ byte. not (byte == 32)) (no_space is_name_byte refl) more
    (and_parts (nat_lt (length more) 30) (list_all is_name_byte more) parts.1).1)

-- an instance's number
digits_of_index : (word : List ℕ) → is_index word ≡ true → are_digits word ≡ true
digits_of_index [] h = absurd (cc h)
digits_of_index (first ∷ more) h =
    (and_parts (are_digits (first ∷ more)) (nat_le (length more) 8)
    (and_parts (are_digits (first ∷ more) && nat_le (length more) 8) (not (first == 48) || (length more == 0)) h).0).0

pub index_unspaced : (word : List ℕ) → is_index word ≡ true → is_unspaced word ≡ true
index_unspaced word h =
    all_grow is_ascii_digit (λ byte. not (byte == 32)) (no_space is_ascii_digit refl) word
    (and_parts (not (length word == 0)) (list_all is_ascii_digit word) (digits_of_index word h)).1

-- upper case
upper_name_byte : (byte : ℕ) → is_name_byte byte ≡ true → is_name_byte (to_ascii_uppercase byte) ≡ true
upper_name_byte byte h = let is = uppercase_is byte in grind (arith, nat_tests)

upper_begins : (byte : ℕ) → begins_name byte ≡ true → begins_name (to_ascii_uppercase byte) ≡ true
upper_begins byte h = let is = uppercase_is byte in grind (arith, nat_tests)

upper_all : (word : List ℕ) → list_all is_name_byte word ≡ true
    → list_all is_name_byte (str_to_ascii_uppercase word) ≡ true
upper_all [] h = refl
upper_all (byte ∷ word) h =
    let parts = and_parts (is_name_byte byte) (list_all is_name_byte word) h in
    and_from (is_name_byte (to_ascii_uppercase byte)) (list_all is_name_byte (str_to_ascii_uppercase word))
    (upper_name_byte byte parts.0) (upper_all word parts.1)

pub upper_is_name : (word : List ℕ) → is_name word ≡ true → is_name (str_to_ascii_uppercase word) ≡ true
upper_is_name [] h = h
upper_is_name (first ∷ more) h =
    let parts = and_parts (begins_name first) (ends_name more) h in
    let ends = and_parts (nat_lt (length more) 30) (list_all is_name_byte more) parts.1 in
    and_from (begins_name (to_ascii_uppercase first)) (ends_name (str_to_ascii_uppercase more))
    (upper_begins first parts.0)
    (and_from (nat_lt (length (str_to_ascii_uppercase more)) 30) (list_all is_name_byte (str_to_ascii_uppercase more))
    (ap (λ n. nat_lt n 30) (length-map more to_ascii_uppercase) ∙ ends.0) (upper_all more ends.1))

pub upper_stays : (word : List ℕ) → str_to_ascii_uppercase (str_to_ascii_uppercase word) ≡ str_to_ascii_uppercase word
upper_stays [] = refl
upper_stays (byte ∷ word) = (λ j. uppercase-uppercase byte j ∷ upper_stays word j)

-- digits as they write a number
AreDigits : List ℕ → Type 0
AreDigits digits = list_all is_ascii_digit digits ≡ true

in_range : (c : ℕ) → is_ascii_digit c ≡ true → IsInRange 48 57 c
in_range c h = let parts = and_parts (nat_le 48 c) (nat_le c 57) h in (leb-true 48 c parts.0, leb-true c 57 parts.1)

is_digit : (c : ℕ) → IsInRange 48 57 c → is_ascii_digit c ≡ true
is_digit c h = and_from (nat_le 48 c) (nat_le c 57) (le-leb 48 c h.0) (le-leb c 57 h.1)

digits_test : IsDigitsTest AreDigits
unfolding AreDigits
digits_test = record {
  empty = refl;
  parts = λ c cs h. let parts = and_parts (is_ascii_digit c) (list_all is_ascii_digit cs) h in
      (in_range c parts.0, parts.1);
  more = λ c cs h more. and_from (is_ascii_digit c) (list_all is_ascii_digit cs) (is_digit c h) more;
}

folds : FoldsDigits (λ n ds. fold with_digit n ds)
folds = record { empty = λ n. refl; more = λ n c cs h. refl }

model : IsNumeralModel AreDigits number_of
model = numerals_by_fold AreDigits digits_test (λ n ds. fold with_digit n ds) folds

lone : (first : ℕ) (more : List ℕ) → (not (first == 48) || (length more == 0)) ≡ true → first ≡ 48
    → length (first ∷ more) ≡ 1
lone first more h e =
    let none : length more ≡ 0
    = eqb-true (length more) 0 (sym (ap (λ b. not b || (length more == 0)) (eq-eqb first 48 e)) ∙ h) in
    omega (arith, none)

pub index_is : (word : List ℕ) → is_index word ≡ true → decimal (number_of word) ≡ word
unfolding AreDigits
index_is [] h = absurd (cc h)
index_is (first ∷ more) h =
    let outer
    = and_parts (are_digits (first ∷ more) && nat_le (length more) 8) (not (first == 48) || (length more == 0)) h in
    let inner = and_parts (are_digits (first ∷ more)) (nat_le (length more) 8) outer.0 in
    let digits = (and_parts (not (length (first ∷ more) == 0)) (list_all is_ascii_digit (first ∷ more)) inner.0).1 in
    let few : length (first ∷ more) ≤ 9 = omega (arith, leb-true (length more) 8 inner.1) in
    let small : number_of (first ∷ more) < 10 ^ 9 = digits_value_short model (first ∷ more) 9 digits few in
    decimal-digits_value model (first ∷ more) digits (omega arith) (lone first more outer.1) (omega (arith, small))
