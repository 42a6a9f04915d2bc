-- Words as lists of bytes, and their comparison.
use Rattle.std.specs.Prelude.{ℕ, Bool, List}
use Rattle.std.specs.Str.{bytes_eq, str_eq_ignore_ascii_case}

-- the same bytes
abbrev pub same_bytes : List ℕ → List ℕ → Bool
same_bytes = bytes_eq

-- the same bytes but for the case of ASCII letters
abbrev pub same_ignoring_case : List ℕ → List ℕ → Bool
same_ignoring_case = str_eq_ignore_ascii_case
