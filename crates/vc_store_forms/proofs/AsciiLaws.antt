-- Digits are ASCII, and what is ASCII is UTF-8.
use Rattle.std.proofs.Common.{◌≡◌, ℕ, zero, suc, ◌+◌, ◌<◌, ◌/◌, ◌%◌, Bool, true, false, cond, List, [], ◌∷◌, ◌++◌}
use Rattle.std.proofs.Common.{refl, arith, IsUtf8, IsAscii}
use Rattle.std.specs.Prelude.{◌==◌, nat_lt}
use Rattle.std.specs.Fmt.{decimal, digit_glyph, digits, digits_onto}
use Rattle.std.specs.List.{list_all}
use Rattle.std.proofs.lemmas.Bool.{and_from, and_parts, lt-ltb, ltb-true}
use Rattle.std.proofs.lemmas.Str.{IsUtf8-from_ascii}
use Rattle.std.proofs.Math.Nat.{mod-lt}

-- a byte of ASCII
abbrev pub is_plain : ℕ → Bool
is_plain b = nat_lt b 128

ascii : (bytes : List ℕ) → list_all is_plain bytes ≡ true → IsAscii bytes
ascii [] h i = omega arith
ascii (b ∷ bytes) h zero = ltb-true b 128 (and_parts (nat_lt b 128) (list_all is_plain bytes) h).0
ascii (b ∷ bytes) h (suc i) = ascii bytes (and_parts (nat_lt b 128) (list_all is_plain bytes) h).1 i

pub plain_utf8 : (bytes : List ℕ) → list_all is_plain bytes ≡ true → IsUtf8 bytes
plain_utf8 bytes h = IsUtf8-from_ascii bytes (ascii bytes h)

-- two texts in a row
pub plain_append : (xs ys : List ℕ) → list_all is_plain xs ≡ true → list_all is_plain ys ≡ true
    → list_all is_plain (xs ++ ys) ≡ true
plain_append [] ys first second = second
plain_append (x ∷ xs) ys first second =
    let parts = and_parts (is_plain x) (list_all is_plain xs) first in
    and_from (is_plain x) (list_all is_plain (xs ++ ys)) parts.0 (plain_append xs ys parts.1 second)

-- digits are digits, however large the number
glyph_plain : (d : ℕ) → d < 10 → is_plain (digit_glyph false d) ≡ true
glyph_plain d few = rw (lt-ltb d 10 few) (lt-ltb (48 + d) 128 (omega (arith, few)))

digits_plain : (fuel n : ℕ) (rest : List ℕ) → list_all is_plain rest ≡ true
    → list_all is_plain (digits_onto fuel 10 false n rest) ≡ true
digits_plain zero n rest plain = plain
digits_plain (suc fuel) n rest plain = by (n / 10 == 0) (digits_plain fuel (n / 10) next next_plain)
  where
    next : List ℕ
    next = digit_glyph false (n % 10) ∷ rest

    next_plain : list_all is_plain next ≡ true
    next_plain = and_from (is_plain (digit_glyph false (n % 10))) (list_all is_plain rest)
        (glyph_plain (n % 10) (mod-lt n (omega arith))) plain

    by : (b : Bool) → list_all is_plain (digits_onto fuel 10 false (n / 10) next) ≡ true
        → list_all is_plain (cond b next (digits_onto fuel 10 false (n / 10) next)) ≡ true
    by true later = next_plain
    by false later = later

pub decimal_plain : (n : ℕ) → list_all is_plain (decimal n) ≡ true
unfolding digits
decimal_plain n = digits_plain 64 n [] refl
