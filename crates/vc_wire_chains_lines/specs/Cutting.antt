-- The words of a chain's lines: what stands before a separator and what stands behind it, numbers, and texts in quotes.
use Rattle.std.specs.Prelude.{ℕ, ◌+◌, Bool, false, not, ◌&&◌, ◌||◌, ◌==◌, nat_le, if◌then◌else◌, List, [], ◌∷◌, ◌++◌}
use Rattle.std.specs.Prelude.{length, take, drop, position, codes, Option, None, Some}
use Rattle.std.specs.List.{before_first, slice_split}
use Rattle.std.specs.Option.{option_map}
use Rattle.vc_value.specs.Decimals.{are_digits, number_of}
use Rattle.vc_value.specs.Words.{same_ignoring_case}
use Rattle.vc_wire_requests.specs.Requests.{◌>>=◌}

-- what follows a text with which the line begins, in letters of either case
abbrev pub after : List ℕ → List ℕ → Option (List ℕ)
after text line =
    if nat_le (length text) (length line) && same_ignoring_case (take (length text) line) text
    then Some (drop (length text) line)
    else None

-- what stands before the first separator, or all; and what stands behind it, if there is one
abbrev pub part_before : ℕ → List ℕ → List ℕ
part_before separator text = before_first (λ byte. byte == separator) text

abbrev pub part_behind : ℕ → List ℕ → Option (List ℕ)
part_behind separator text = option_map (λ at. drop (at + 1) text) (position (λ byte. byte == separator) text)

-- all parts, of which there is one at least
abbrev pub parts_at : ℕ → List ℕ → List (List ℕ)
parts_at separator text = slice_split (λ byte. byte == separator) text

abbrev pub parts_if : ℕ → Option (List ℕ) → List (List ℕ)
parts_if separator None = []
parts_if separator (Some text) = parts_at separator text

-- a number of 32 bits as it is printed, without a zero in front
abbrev pub is_plain : List ℕ → Bool
is_plain [] = false
is_plain (first ∷ more) = (are_digits (first ∷ more) && nat_le (length more) 9)
    && (not (first == 48) || (length more == 0))

abbrev pub narrowed : ℕ → Option ℕ
narrowed number = if nat_le number 4_294_967_295 then Some number else None

abbrev pub number_in : List ℕ → Option ℕ
number_in word = if is_plain word then narrowed (number_of word) else None

-- the numbers that all the parts are, behind those before them
abbrev pub numbers_from : List ℕ → List (List ℕ) → Option (List ℕ)
numbers_from numbers [] = Some numbers
numbers_from numbers (part ∷ parts) = do
  number ← number_in part
  numbers_from (numbers ++ number ∷ []) parts

abbrev pub numbers_at : ℕ → List ℕ → Option (List ℕ)
numbers_at separator text = numbers_from [] (parts_at separator text)

-- whether a quote stands in front
abbrev pub is_quoted : List ℕ → Bool
is_quoted [] = false
is_quoted (byte ∷ bytes) = byte == 39

-- behind an opening quote: a text with each quote doubled, up to the quote that closes it
abbrev pub closed : List ℕ → Option (List ℕ)
closed bytes = if is_quoted bytes then Some [] else None

abbrev pub text_from : List ℕ → Option (List ℕ)
text_from [] = None
text_from (byte ∷ []) = closed (byte ∷ [])
text_from (byte ∷ (next ∷ bytes)) =
    if byte == 39
    then (if next == 39 then option_map (λ text. 39 ∷ text) (text_from bytes) else Some [])
    else option_map (λ text. byte ∷ text) (text_from (next ∷ bytes))

-- and what follows that quote
abbrev pub behind_quote : List ℕ → Option (List ℕ)
behind_quote [] = None
behind_quote (byte ∷ bytes) = if byte == 39 then Some bytes else None

abbrev pub behind_text : List ℕ → Option (List ℕ)
behind_text [] = None
behind_text (byte ∷ []) = behind_quote (byte ∷ [])
behind_text (byte ∷ (next ∷ bytes)) =
    if byte == 39 then (if next == 39 then behind_text bytes else Some (next ∷ bytes)) else behind_text (next ∷ bytes)

-- the text that stands in quotes in front of a line, and what follows the space behind it
abbrev pub quoted_text : List ℕ → Option (List ℕ)
quoted_text [] = None
quoted_text (byte ∷ bytes) = text_from bytes

abbrev pub behind_quoted : List ℕ → Option (List ℕ)
behind_quoted [] = None
behind_quoted (byte ∷ bytes) = do
  rest ← behind_text bytes
  after (codes " ") rest
