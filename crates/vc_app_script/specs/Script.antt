-- The lines of a script.
use Rattle.std.specs.Prelude.{ℕ, Bool, true, List, [], ◌∷◌, ◌==◌}
use Rattle.std.specs.Str.Lines as text

-- the lines of a script without their ends, LF or CR LF; what follows the last LF is a line where it isn't empty
abbrev pub lines_of : List ℕ → List (List ℕ)
lines_of script = text.lines script

-- a line without the carriage return at its end, if it has one
abbrev pub without_carriage_return : List ℕ → List ℕ
without_carriage_return line = text.strip_carriage_return line

-- an empty line or one that begins with `*`
abbrev pub is_skipped : List ℕ → Bool
is_skipped [] = true
is_skipped (first ∷ more) = first == 42
