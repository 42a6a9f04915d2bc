-- How values and grains are spelled: a text in quotes, a number, or the ends of a grain of more numbers than one.
use Rattle.std.specs.Prelude.{ℕ, Bool, false, not, ◌&&◌, if◌then◌else◌, List, slice_get, codes, Option, None, Some}
use Rattle.std.specs.Prelude.{Result, Ok, Err}
use Rattle.std.specs.List.{find}
use Rattle.std.specs.Ordering.{int_eq}
use Rattle.vc_value.specs.Decimals.{read_number}
use Rattle.vc_value.specs.Numerals.{number_text}
use Rattle.vc_value.specs.Words.{same_bytes}
use Rattle.vc_value.specs.declared.decimal.Dec.{Dec}
use Rattle.vc_value.specs.declared.decimal.NumFault.{NumFault}
use Rattle.vc_value.specs.declared.grains.Grain.{Grain}
use Rattle.vc_value.specs.declared.value.Value.{Value}
use Rattle.vc_value.specs.declared.value.Value.TheVariants as values
use Rattle.vc_plan.specs.declared.conditions.Piece.{Piece}
use Rattle.vc_plan.specs.declared.conditions.Piece.TheVariants.{OneText, Stretch}
use Rattle.vc_plan.specs.declared.plans.Plan.{Plan}
use Rattle.vc_plan.specs.Domains.{count_of, grains_of, is_grain_with, numbers_below}
use Rattle.vc_plan.specs.Fitting.{may_have}
use Rattle.vc_wire_requests.specs.Requests.{cut_at_space, ◌>>=◌}
use Rattle.vc_wire_chains_lines.specs.Cutting.{after, behind_quoted, is_quoted, quoted_text}
use Rattle.vc_wire_chains_lines.specs.declared.spelling.Spelling.{Spelling}
use Rattle.vc_wire_chains_lines.specs.declared.spelling.Spelling.TheVariants.{Text, Number, Ends}

-- whether the text, if there is one, is this word
abbrev pub is_text : List ℕ → Option (List ℕ) → Bool
is_text word None = false
is_text word (Some text) = same_bytes text word

abbrev pub same_number : Dec → Dec → Bool
same_number a b = int_eq a.millionths b.millionths

abbrev pub has_ends : Grain → Dec → Dec → Bool
has_ends grain low high = same_number grain.low low && same_number grain.high high

-- whether a grain is spelled so: one of a single number as that number, one of more by its ends
abbrev pub is_piece : Plan → Spelling → Piece → Bool
is_piece plan (Text word) (OneText t) = is_text word (slice_get plan.texts t)
is_piece plan (Text word) (Stretch grain) = false
is_piece plan (Number a) (OneText t) = false
is_piece plan (Number a) (Stretch grain) = has_ends grain a a
is_piece plan (Ends a b) (OneText t) = false
is_piece plan (Ends a b) (Stretch grain) = has_ends grain a b && not (same_number a b)

-- the grain of a variable that is
abbrev pub grain_spelled : Plan → ℕ → Spelling → Option ℕ
grain_spelled plan v spelling = find (is_grain_with plan v (is_piece plan spelling)) (numbers_below (count_of plan v))

-- the text that is the grain
abbrev pub text_of : Option Piece → Option Value
text_of None = None
text_of (Some (OneText t)) = Some (values.Text t)
text_of (Some (Stretch grain)) = None

-- the value that a text is of the variable's list, and a number, in any spelling, which a grain holds and which has no
-- more decimals than the variable's numbers
abbrev pub text_value : Plan → ℕ → Spelling → Option Value
text_value plan v spelling = do
  g ← grain_spelled plan v spelling
  text_of (slice_get (grains_of plan v) g)

abbrev pub number_if : Plan → ℕ → Result Dec NumFault → Option Value
number_if plan v (Err fault) = None
number_if plan v (Ok a) = if may_have plan v (values.Num a) then Some (values.Num a) else None

abbrev pub number_value : Plan → ℕ → List ℕ → Option Value
number_value plan v word = number_if plan v (read_number word)

-- a number as it is printed
abbrev pub printed_as : List ℕ → Dec → Option Dec
printed_as word a = if same_bytes (number_text a) word then Some a else None

abbrev pub printed_if : List ℕ → Result Dec NumFault → Option Dec
printed_if word (Err fault) = None
printed_if word (Ok a) = printed_as word a

abbrev pub printed_number : List ℕ → Option Dec
printed_number word = printed_if word (read_number word)

-- what is spelled in front of a line as grains are printed
abbrev pub ends_from : Dec → List ℕ → Option Spelling
ends_from low more = do
  last ← cut_at_space more
  high ← printed_number last.0
  Some (Ends low high)

abbrev pub spelled_from : Dec → Option (List ℕ) → Option Spelling
spelled_from low None = Some (Number low)
spelled_from low (Some more) = ends_from low more

abbrev pub numbers_spelled : List ℕ → Option Spelling
numbers_spelled line = do
  first ← cut_at_space line
  low ← printed_number first.0
  spelled_from low (after (codes ".. ") first.1)

abbrev pub text_spelled : List ℕ → Option Spelling
text_spelled line = do
  text ← quoted_text line
  Some (Text text)

abbrev pub spelled : List ℕ → Option Spelling
spelled line = if is_quoted line then text_spelled line else numbers_spelled line

-- what follows the space behind it, and behind a value
abbrev pub behind_word : List ℕ → Option (List ℕ)
behind_word line = do
  word ← cut_at_space line
  Some word.1

abbrev pub behind_ends : List ℕ → Option (List ℕ) → Option (List ℕ)
behind_ends rest None = Some rest
behind_ends rest (Some more) = behind_word more

abbrev pub behind_numbers : List ℕ → Option (List ℕ)
behind_numbers line = do
  rest ← behind_word line
  behind_ends rest (after (codes ".. ") rest)

abbrev pub behind_grain : List ℕ → Option (List ℕ)
behind_grain line = if is_quoted line then behind_quoted line else behind_numbers line

abbrev pub behind_value : List ℕ → Option (List ℕ)
behind_value line = if is_quoted line then behind_quoted line else behind_word line

-- the grain and the value of a variable that stand in front of a line
abbrev pub grain_ahead : Plan → ℕ → List ℕ → Option ℕ
grain_ahead plan v line = do
  spelling ← spelled line
  grain_spelled plan v spelling

abbrev pub text_ahead : Plan → ℕ → List ℕ → Option Value
text_ahead plan v line = do
  spelling ← text_spelled line
  text_value plan v spelling

abbrev pub number_ahead : Plan → ℕ → List ℕ → Option Value
number_ahead plan v line = do
  word ← cut_at_space line
  number_value plan v word.0

abbrev pub value_ahead : Plan → ℕ → List ℕ → Option Value
value_ahead plan v line = if is_quoted line then text_ahead plan v line else number_ahead plan v line
