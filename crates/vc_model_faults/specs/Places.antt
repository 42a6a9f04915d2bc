-- Where the lines of a text stand that count.
use Rattle.std.specs.Prelude.{◌≡◌, ℕ, ◌+◌, false, List, [], ◌∷◌, ◌++◌, length, drop, map}
use Rattle.std.specs.Str.Lines.{lines}
use Rattle.vc_model_lines.specs.Classified.{line_of}
use Rattle.vc_model_lines.specs.declared.line.Line.{Line}
use Rattle.vc_model_scope.specs.Stands.{counts}
use Rattle.vc_model_faults.specs.declared.places.Place.{Place}

-- the line that begins with this byte of the text; it stands outside blocks
abbrev pub first_of : List (List ℕ) → List ℕ
first_of [] = []
first_of (raw ∷ more) = raw

abbrev pub line_at : List ℕ → ℕ → Line
line_at text start = line_of false (first_of (lines (drop start text)))

-- a line with its number
pub record Numbered : Type 0 where
  pub number : ℕ
  pub line : Line

-- the lines of the text whose places are kept
abbrev pub seen_place : List ℕ → Place → Numbered
seen_place text place = record { number = place.number; line = line_at text place.start }

unfoldable pub seen_places : List ℕ → List Place → List Numbered
seen_places text places = map (seen_place text) places

-- a line is kept behind others, with its number, or it doesn't count
pub data Follows (line : Line) (number : ℕ) : List Numbered → List Numbered → Type 0 where
  passed : {before : List Numbered} → counts line ≡ false → Follows line number before before
  kept : {before : List Numbered} → Follows line number before (before ++ record { number = number; line = line } ∷ [])

-- of lines, which are given from the nearest to the first, all that count are kept, in the order of the text
pub data Kept : List Line → List Numbered → Type 0 where
  nothing : Kept [] []
  more : {line : Line} {earlier : List Line} {before after : List Numbered}
      → Kept earlier before → Follows line (length earlier + 1) before after → Kept (line ∷ earlier) after
