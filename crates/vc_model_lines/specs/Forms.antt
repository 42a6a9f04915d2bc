-- The forms of lines: what the words after the keyword make of a line, if they have the shape of its form.
use Rattle.std.specs.Prelude.{ℕ, ◌+◌, Bool, true, false, ◌==◌, List, [], ◌∷◌, length, take, drop, codes, Option, Some}
use Rattle.std.specs.Prelude.{None, option_map, if◌then◌else◌}
use Rattle.std.specs.List.{position_from}
use Rattle.std.specs.Result.{result_ok}
use Rattle.vc_value.specs.declared.decimal.Dec.{Dec}
use Rattle.vc_value.specs.Decimals.{read_number}
use Rattle.vc_value.specs.Words.{same_ignoring_case}
use Rattle.vc_model_lines.specs.declared.line.Keyword.{Keyword}
use Rattle.vc_model_lines.specs.declared.line.Keyword.TheVariants as keyword
use Rattle.vc_syntax_tokens.specs.declared.fault.Kind.{Kind}
use Rattle.vc_syntax_tokens.specs.declared.fault.Kind.TheVariants as kinds
use Rattle.vc_model_lines.specs.declared.line.Line.{Line}
use Rattle.vc_model_lines.specs.declared.line.Line.TheVariants as line
use Rattle.vc_model_lines.specs.LineWords.{upper, has_word, after_words}
use Rattle.vc_model_lines.specs.Counts.{count_in, item_number}
use Rattle.vc_model_lines.specs.Quoted.{begins_with_quote, quoted_text}

-- whether the word is this one, in either case
abbrev pub is_word : List ℕ → List ℕ → Bool
is_word wanted word = same_ignoring_case wanted word

-- `name VERSION n`
abbrev pub head_line : List (List ℕ) → Option Line
head_line (name ∷ version ∷ number ∷ []) =
    if is_word (codes "VERSION") version
    then Some (line.Head (record { name = upper name; version = count_in 1 999999 number }))
    else None
head_line words = None

-- 1 where the flag stands
abbrev pub one_if : Bool → ℕ
one_if true = 1
one_if false = 0

-- `name length` and flags, each of them once: there are as many words as flags among them
abbrev pub flagged_char : List ℕ → List ℕ → ℕ → Bool → Bool → Bool → Option Line
flagged_char name size flags restrictable required multiple =
    if flags == one_if restrictable + one_if required + one_if multiple
    then Some (line.Char (record {
      name = upper name;
      length = count_in 1 30 size;
      restrictable = restrictable;
      required = required;
      multiple = multiple;
    }))
    else None

abbrev pub char_with_flags : List ℕ → List ℕ → List (List ℕ) → Option Line
char_with_flags name size flags =
    flagged_char name size (length flags) (has_word (codes "RESTRICTABLE") flags) (has_word (codes "REQUIRED") flags)
    (has_word (codes "MULTIPLE") flags)

abbrev pub char_line : List (List ℕ) → Option Line
char_line (name ∷ size ∷ flags) = char_with_flags name size flags
char_line words = None

-- a unit in upper case, where there is one
abbrev pub upper_unit : Option (List ℕ) → Option (List ℕ)
upper_unit unit = option_map upper unit

-- `name decimals`, flags, each of them once, and perhaps a unit
abbrev pub flagged_num : List ℕ → List ℕ → ℕ → Bool → Bool → Option (List ℕ) → Option Line
flagged_num name decimals flags restrictable required unit =
    if flags == one_if restrictable + one_if required
    then Some (line.Num (record {
      name = upper name;
      decimals = count_in 0 6 decimals;
      restrictable = restrictable;
      required = required;
      unit = upper_unit unit;
    }))
    else None

abbrev pub num_with_flags : List ℕ → List ℕ → List (List ℕ) → Option (List ℕ) → Option Line
num_with_flags name decimals flags unit =
    flagged_num name decimals (length flags) (has_word (codes "RESTRICTABLE") flags) (has_word (codes "REQUIRED") flags)
    unit

-- `UNIT` is followed by one word
abbrev pub num_with_unit : List ℕ → List ℕ → List (List ℕ) → List (List ℕ) → Option Line
num_with_unit name decimals flags (unit ∷ []) = num_with_flags name decimals flags (Some unit)
num_with_unit name decimals flags words = None

-- where the first `UNIT` stands
abbrev pub unit_at : List (List ℕ) → Option ℕ
unit_at words = position_from (λ word. is_word (codes "UNIT") word) 0 words

-- the flags stand before it
abbrev pub num_at : List ℕ → List ℕ → List (List ℕ) → Option ℕ → Option Line
num_at name decimals words None = num_with_flags name decimals words None
num_at name decimals words (Some place) = num_with_unit name decimals (take place words) (drop (place + 1) words)

abbrev pub num_with_more : List ℕ → List ℕ → List (List ℕ) → Option Line
num_with_more name decimals words = num_at name decimals words (unit_at words)

abbrev pub num_line : List (List ℕ) → Option Line
num_line (name ∷ decimals ∷ words) = num_with_more name decimals words
num_line words = None

-- the number that a word spells, if it is one of at most nine digits before the point and six after it
abbrev pub number_in : List ℕ → Option Dec
number_in word = result_ok (read_number word)

-- `n .. n`
abbrev pub ends_line : List ℕ → List ℕ → List ℕ → Option Line
ends_line low dots high =
    if is_word (codes "..") dots
    then Some (line.Interval (record { low = number_in low; high = number_in high })) else None

abbrev pub between_line : List (List ℕ) → Option Line
between_line (low ∷ dots ∷ high ∷ []) = ends_line low dots high
between_line words = None

-- `n` or `n .. n`
abbrev pub interval_line : List (List ℕ) → Option Line
interval_line (number ∷ []) = Some (line.Interval (record { low = number_in number; high = number_in number }))
interval_line words = between_line words

-- what begins with a quote is one text in quotes; else it is a number or an interval
abbrev pub value_line : List ℕ → List (List ℕ) → Option Line
value_line rest words = if begins_with_quote rest then option_map line.Text (quoted_text rest) else interval_line words

-- one name, in upper case
abbrev pub one_name : List (List ℕ) → Option (List ℕ)
one_name (name ∷ []) = Some (upper name)
one_name words = None

abbrev pub uses_line : List (List ℕ) → Option Line
uses_line words = option_map line.Uses (one_name words)

abbrev pub class_line : List (List ℕ) → Option Line
class_line words = option_map line.Class (one_name words)

abbrev pub has_line : List (List ℕ) → Option Line
has_line words = option_map line.Has (one_name words)

abbrev pub net_line : List (List ℕ) → Option Line
net_line words = option_map line.Net (one_name words)

abbrev pub root_line : List (List ℕ) → Option Line
root_line words = option_map line.Root (one_name words)

-- `name FILE file`; the file keeps its case
abbrev pub table_line : List (List ℕ) → Option Line
table_line (name ∷ fixed ∷ file ∷ []) =
    if is_word (codes "FILE") fixed then Some (line.Table (record { name = upper name; file = file })) else None
table_line words = None

abbrev pub column : List ℕ → Bool → Option Line
column name key = Some (line.Column (record { characteristic = upper name; key = key }))

-- `characteristic` or `characteristic KEY`
abbrev pub column_line : List (List ℕ) → Option Line
column_line (name ∷ []) = column name false
column_line (name ∷ key ∷ []) = if is_word (codes "KEY") key then column name true else None
column_line words = None

-- `material CLASS class`
abbrev pub object_line : List (List ℕ) → Option Line
object_line (material ∷ fixed ∷ class ∷ []) =
    if is_word (codes "CLASS") fixed
    then Some (line.Object (record { material = upper material; class = upper class })) else None
object_line words = None

-- `item material unit :`, and the term after it
abbrev pub bill_line : List ℕ → List (List ℕ) → Option Line
bill_line term (item ∷ material ∷ unit ∷ colon ∷ words) =
    if is_word (codes ":") colon
    then Some (line.Bill
    (record { item = item_number item; material = upper material; unit = upper unit; quantity = term }))
    else None
bill_line term words = None

-- `number centre unit :`, and the term after it
abbrev pub operation_line : List ℕ → List (List ℕ) → Option Line
operation_line term (number ∷ centre ∷ unit ∷ colon ∷ words) =
    if is_word (codes ":") colon
    then Some (line.Operation
    (record { number = item_number number; centre = upper centre; unit = upper unit; time = term }))
    else None
operation_line term words = None

-- the name of a block
abbrev pub block_line : Kind → List (List ℕ) → Option Line
block_line kind words = option_map (λ name. line.Block (record { kind = kind; name = name })) (one_name words)

-- one word, whatever it is
abbrev pub action_line : List (List ℕ) → Option Line
action_line (word ∷ []) = Some line.Action
action_line words = None

-- the line of this keyword; the whole line and the words after the keyword are given
abbrev pub form_of : Keyword → List ℕ → List (List ℕ) → Option Line
form_of keyword.Model text words = head_line words
form_of keyword.Char text words = char_line words
form_of keyword.Num text words = num_line words
form_of keyword.Value text words = value_line (after_words 1 text) words
form_of keyword.Uses text words = uses_line words
form_of keyword.Class text words = class_line words
form_of keyword.Has text words = has_line words
form_of keyword.Table text words = table_line words
form_of keyword.Column text words = column_line words
form_of keyword.Net text words = net_line words
form_of keyword.Object text words = object_line words
form_of keyword.Line text words = bill_line (after_words 5 text) words
form_of keyword.Operation text words = operation_line (after_words 5 text) words
form_of keyword.Precondition text words = block_line kinds.Precondition words
form_of keyword.Selection text words = block_line kinds.Selection words
form_of keyword.Procedure text words = block_line kinds.Procedure words
form_of keyword.Constraint text words = block_line kinds.Constraint words
form_of keyword.Root text words = root_line words
form_of keyword.Action text words = action_line words
