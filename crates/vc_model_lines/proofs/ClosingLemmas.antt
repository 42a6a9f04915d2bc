-- A short line closes no block.
use Rattle.std.proofs.Common.{◌≡◌, ℕ, suc, ◌<◌, ◌≤◌, ◌==◌, ◌&&◌, Bool, true, false, List, [], ◌∷◌, length, nat_le, refl}
use Rattle.std.proofs.Common.{arith, if◌then◌else◌}
use Rattle.std.specs.Prelude.{codes}
use Rattle.std.proofs.lemmas.Bool.Decides.{nat_tests}
use Rattle.std.specs.Char.{to_ascii_lowercase}
use Rattle.std.specs.Str.{bytes_eq}
use Rattle.vc_value.specs.Words.{same_ignoring_case}
use Rattle.vc_model_lines.specs.LineWords.{trimmed, with_byte, without_spaces_before, without_spaces_behind}
use Rattle.vc_model_lines.proofs.WordParts.{front_shorter}

none_of : (b : Bool) → (b && false) ≡ false
none_of true = refl
none_of false = refl

neither : (b c : Bool) → (b && (c && false)) ≡ false
neither true c = none_of c
neither false c = refl

differs : (word : List ℕ) → length word < 3 → same_ignoring_case (codes "END") word ≡ false
differs [] short = refl
differs (x ∷ []) short = none_of (101 == to_ascii_lowercase x)
differs (x ∷ y ∷ []) short = neither (101 == to_ascii_lowercase x) (110 == to_ascii_lowercase y)
differs (x ∷ y ∷ z ∷ more) short = absurd (omega arith)

with_shorter : (byte : ℕ) (bytes : List ℕ) → length (with_byte byte bytes) ≤ suc (length bytes)
with_shorter byte [] = by (byte == 32)
  where
    by : (b : Bool) → length (if b then [] else byte ∷ []) ≤ 1
    by true = omega arith
    by false = omega arith
with_shorter byte (next ∷ bytes) = omega arith

behind_shorter : (bytes : List ℕ) → length (without_spaces_behind bytes) ≤ length bytes
behind_shorter [] = omega arith
behind_shorter (byte ∷ bytes) =
    let more = behind_shorter bytes in
    let here = with_shorter byte (without_spaces_behind bytes) in
    omega arith

below : (n : ℕ) → nat_le 3 n ≡ false → n < 3
below n beyond = grind (arith, nat_tests)

pub too_short : (raw : List ℕ) → nat_le 3 (length raw) ≡ false → same_ignoring_case (codes "END") (trimmed raw) ≡ false
too_short raw beyond =
    let short = below (length raw) beyond in
    let front = front_shorter raw in
    let behind = behind_shorter (without_spaces_before raw) in
    differs (trimmed raw) (omega arith)
