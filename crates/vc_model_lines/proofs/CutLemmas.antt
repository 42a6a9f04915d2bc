-- The first of a text's lines, and the lines after it.
use Rattle.std.proofs.Common.{◌≡◌, ℕ, ◌+◌, ◌<◌, ◌≤◌, ◌==◌, Bool, true, false, nat_lt, cond, List, [], ◌∷◌, length, take}
use Rattle.std.proofs.Common.{drop, Some, None, if◌then◌else◌, refl, sym, ap, ◌∙◌, arith}
use Rattle.std.specs.List.{All, slice_split, position, position_or_len, onto_first}
use Rattle.std.specs.Str.Lines.{lines, lines_of_parts, strip_carriage_return}
use Rattle.std.proofs.lemmas.Bool.{ne_eqb}
use Rattle.std.proofs.lemmas.Bool.Decides.{nat_tests}
use Rattle.std.proofs.lemmas.List.Splits.{slice_split_first, slice_split_none}
use Rattle.std.proofs.lemmas.List.Sums.{fails_before_first}

abbrev is_end : ℕ → Bool
is_end byte = byte == 10

-- there is always a first part
onto_some : (x : ℕ) (parts : List (List ℕ))
    → (part : List ℕ) × (more : List (List ℕ)) × (onto_first x parts ≡ part ∷ more)
onto_some x [] = (x ∷ [], [], refl)
onto_some x (part ∷ parts) = (x ∷ part, parts, refl)

first_part : (bytes : List ℕ) → (part : List ℕ) × (more : List (List ℕ)) × (slice_split is_end bytes ≡ part ∷ more)
first_part [] = ([], [], refl)
first_part (byte ∷ bytes) = by (is_end byte)
  where
    by : (test : Bool) → (part : List ℕ) × (more : List (List ℕ))
        × (cond test ([] ∷ slice_split is_end bytes) (onto_first byte (slice_split is_end bytes)) ≡ part ∷ more)
    by true = ([], slice_split is_end bytes, refl)
    by false = onto_some byte (slice_split is_end bytes)

-- a line before others
before : (line bytes : List ℕ)
    → lines_of_parts (line ∷ slice_split is_end bytes) ≡ strip_carriage_return line ∷ lines bytes
before line bytes =
    let p = first_part bytes in
    ap (λ parts. lines_of_parts (line ∷ parts)) p.2
    ∙ ap (λ parts. strip_carriage_return line ∷ lines_of_parts parts) (sym p.2)

position_is : (bytes : List ℕ) (at : ℕ) → Some at ≡ position is_end bytes
    → (at ≡ position_or_len is_end bytes) × (position_or_len is_end bytes < length bytes)
position_is bytes at e = by (nat_lt (position_or_len is_end bytes) (length bytes)) refl e
  where
    by : (test : Bool) → nat_lt (position_or_len is_end bytes) (length bytes) ≡ test
        → Some at ≡ cond test (Some (position_or_len is_end bytes)) None
        → (at ≡ position_or_len is_end bytes) × (position_or_len is_end bytes < length bytes)
    by true is s = (cc, grind (arith, nat_tests))
    by false is s = absurd (cc)

pub cut_at : (bytes : List ℕ) (at : ℕ) → Some at ≡ position is_end bytes
    → lines bytes ≡ strip_carriage_return (take at bytes) ∷ lines (drop (at + 1) bytes)
cut_at bytes at e =
    let p = position_is bytes at e in
    ap lines_of_parts (slice_split_first is_end bytes 0 p.1)
    ∙ before (take (position_or_len is_end bytes) bytes) (drop (position_or_len is_end bytes + 1) bytes)
    ∙ ap (λ n. strip_carriage_return (take n bytes) ∷ lines (drop (n + 1) bytes)) (sym p.0)

none_is : (bytes : List ℕ) → position is_end bytes ≡ None → length bytes ≤ position_or_len is_end bytes
none_is bytes e = by (nat_lt (position_or_len is_end bytes) (length bytes)) refl e
  where
    by : (test : Bool) → nat_lt (position_or_len is_end bytes) (length bytes) ≡ test
        → cond test (Some (position_or_len is_end bytes)) None ≡ None
        → length bytes ≤ position_or_len is_end bytes
    by true is s = absurd (cc)
    by false is s = grind (arith, nat_tests)

-- without an LF there is one line
pub one_line : (bytes : List ℕ) → position is_end bytes ≡ None → 0 < length bytes → lines bytes ≡ bytes ∷ []
one_line [] e some = absurd (omega arith)
one_line (byte ∷ bytes) e some =
    let far : length (byte ∷ bytes) ≤ position_or_len is_end (byte ∷ bytes) = none_is (byte ∷ bytes) e in
    let none : All (λ b. is_end b ≡ false) (byte ∷ bytes)
    = λ k d below. fails_before_first is_end (byte ∷ bytes) k d (omega arith) in
    let long : (length (byte ∷ bytes) == 0) ≡ false = ne_eqb (length (byte ∷ bytes)) 0 (λ z. omega arith) in
    ap lines_of_parts (slice_split_none is_end (byte ∷ bytes) none)
    ∙ ap (λ b. if b then [] else (byte ∷ bytes) ∷ []) long
