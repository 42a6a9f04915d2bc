-- The words of a line, and the spaces that don't count.
use Rattle.std.specs.Prelude.{ℕ, suc, zero, Bool, not, ◌==◌, List, [], ◌∷◌, length, if◌then◌else◌}
use Rattle.std.specs.List.{before_first, filter, list_any, slice_split}
use Rattle.std.specs.Prelude.{map, drop}
use Rattle.std.specs.Char.{to_ascii_uppercase}
use Rattle.vc_value.specs.Words.{same_ignoring_case}

abbrev pub is_space : ℕ → Bool
is_space byte = byte == 32

-- the bytes from the first that is no space on
abbrev pub without_spaces_before : List ℕ → List ℕ
without_spaces_before [] = []
without_spaces_before (byte ∷ bytes) = if byte == 32 then without_spaces_before bytes else byte ∷ bytes

-- a byte in front of others, but no space in front of nothing
abbrev pub with_byte : ℕ → List ℕ → List ℕ
with_byte byte [] = if byte == 32 then [] else byte ∷ []
with_byte byte (next ∷ bytes) = byte ∷ next ∷ bytes

-- the bytes up to the last that is no space
abbrev pub without_spaces_behind : List ℕ → List ℕ
without_spaces_behind [] = []
without_spaces_behind (byte ∷ bytes) = with_byte byte (without_spaces_behind bytes)

-- a line without the spaces at its ends
abbrev pub trimmed : List ℕ → List ℕ
trimmed line = without_spaces_behind (without_spaces_before line)

-- the parts that aren't empty
abbrev pub kept_parts : List (List ℕ) → List (List ℕ)
kept_parts parts = filter (λ part. not (length part == 0)) parts

-- the words of a line: what stands between spaces and isn't empty
abbrev pub words : List ℕ → List (List ℕ)
words line = kept_parts (slice_split is_space line)

-- the first word of a line that doesn't begin with a space
abbrev pub first_word : List ℕ → List ℕ
first_word line = before_first is_space line

-- what follows the first word and the spaces after it, in a line that doesn't begin with a space
abbrev pub after_word : List ℕ → List ℕ
after_word line = without_spaces_before (drop (length (first_word line)) line)

-- what follows so many words
abbrev pub after_words : ℕ → List ℕ → List ℕ
after_words zero line = line
after_words (suc count) line = after_words count (after_word line)

-- a word in upper case
abbrev pub upper : List ℕ → List ℕ
upper word = map to_ascii_uppercase word

-- whether one of the words is this one, in either case
abbrev pub has_word : List ℕ → List (List ℕ) → Bool
has_word wanted words = list_any (λ word. same_ignoring_case wanted word) words
