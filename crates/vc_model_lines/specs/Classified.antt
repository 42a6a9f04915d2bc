-- The lines of a model text: each raw line as a line of its form.
use Rattle.std.specs.Prelude.{ℕ, Bool, true, false, ◌==◌, nat_lt, List, [], ◌∷◌, length, codes, Option, Some, None}
use Rattle.std.specs.Prelude.{unwrap_or, drop, if◌then◌else◌}
use Rattle.std.specs.Str.Lines.{lines}
use Rattle.vc_value.specs.Words.{same_ignoring_case}
use Rattle.vc_model_lines.specs.declared.line.Keyword.{Keyword}
use Rattle.vc_model_lines.specs.declared.line.Line.{Line}
use Rattle.vc_model_lines.specs.declared.line.Line.TheVariants as line
use Rattle.vc_model_lines.specs.LineWords.{trimmed, without_spaces_before, words, first_word}
use Rattle.vc_model_lines.specs.Keywords.{keyword_of}
use Rattle.vc_model_lines.specs.Forms.{form_of}

-- over 1,000 bytes, spaces at the ends included
abbrev pub is_long : List ℕ → Bool
is_long raw = nat_lt 1000 (length raw)

-- a line that doesn't count: empty, or with a `*` in front
abbrev pub is_skipped : List ℕ → Bool
is_skipped [] = true
is_skipped (byte ∷ bytes) = byte == 42

-- the line with this keyword; a line without spaces at its ends is given
abbrev pub formed_line : List ℕ → Keyword → Line
formed_line text keyword = unwrap_or (form_of keyword text (drop 1 (words text))) (line.NoForm (Some keyword))

-- the line with this keyword, if it has one
abbrev pub keyed_line : List ℕ → Option Keyword → Line
keyed_line text None = line.NoForm None
keyed_line text (Some keyword) = formed_line text keyword

-- a raw line outside blocks; first without the spaces before it
abbrev pub counted : List ℕ → List ℕ → Line
counted raw text =
    if is_skipped text then line.Skipped
    else if is_long raw then line.TooLong (keyword_of (first_word text))
    else keyed_line (trimmed raw) (keyword_of (first_word text))

abbrev pub outside_block : List ℕ → Line
outside_block raw = counted raw (without_spaces_before raw)

-- a raw line in a block
abbrev pub inside_block : List ℕ → Line
inside_block raw =
    if is_long raw then line.LongInner
    else if same_ignoring_case (codes "END") (trimmed raw) then line.End
    else line.Inner (trimmed raw)

abbrev pub line_of : Bool → List ℕ → Line
line_of inside raw = if inside then inside_block raw else outside_block raw

-- whether what follows the line stands in a block
abbrev pub is_in_block : Line → Bool
is_in_block (line.Block block) = true
is_in_block (line.Inner text) = true
is_in_block line.LongInner = true
is_in_block other = false

-- the lines of these raw lines, of which the first stands in a block or outside
abbrev pub lines_from : Bool → List (List ℕ) → List Line
lines_from inside [] = []
lines_from inside (raw ∷ raws) = let first = line_of inside raw in first ∷ lines_from (is_in_block first) raws

-- the lines below a line, behind which these bytes stand
abbrev pub lines_below : Line → List ℕ → List Line
lines_below line bytes = lines_from (is_in_block line) (lines bytes)

-- the lines of a text: its raw lines end with LF or CR LF, and what follows the last LF is one where it isn't empty
abbrev pub lines_of : List ℕ → List Line
lines_of text = lines_from false (lines text)
