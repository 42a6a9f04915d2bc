-- The shape of a line of a text: its words stand in upper case, and its counts are those of its form.
use Rattle.std.proofs.Common.{◌≡◌, ℕ, ◌+◌, Bool, true, false, ◌&&◌, ◌==◌, List, [], ◌∷◌, length, map, take, drop, codes}
use Rattle.std.proofs.Common.{Option, Some, None, IsUtf8, if◌then◌else◌, refl, ap, ◌∙◌, arith}
use Rattle.std.specs.Prelude.{option_map, unwrap_or}
use Rattle.std.specs.Str.Lines.{lines as raw_lines}
use Rattle.std.specs.Char.{to_ascii_uppercase}
use Rattle.std.specs.List.{list_all}
use Rattle.std.specs.Str.{is_utf8}
use Rattle.std.proofs.lemmas.Bool.{and_from}
use Rattle.std.proofs.lemmas.Bool.Decides.{nat_tests}
use Rattle.std.specs.Cmp.Lexicographic.{bytes_decides}
use Rattle.std.proofs.lemmas.Str.{is_utf8-from_IsUtf8}
use Rattle.vc_value.specs.Decimals.{are_digits, number_of}
use Rattle.vc_value.specs.Words.{same_ignoring_case}
use Rattle.vc_syntax_tokens.specs.declared.fault.Kind.{Kind}
use Rattle.vc_syntax_tokens.specs.declared.fault.Kind.TheVariants as kinds
use Rattle.vc_model_lines.specs.declared.line.Keyword.{Keyword}
use Rattle.vc_model_lines.specs.declared.line.Keyword.TheVariants as keyword
use Rattle.vc_model_lines.specs.declared.line.Line.{Line}
use Rattle.vc_model_lines.specs.declared.line.Line.TheVariants as lines
use Rattle.vc_model_lines.specs.Classified.{is_long, is_skipped, keyed_line, counted, inside_block, line_of}
use Rattle.vc_model_lines.specs.Classified.{is_in_block, lines_from, lines_of}
use Rattle.vc_model_lines.specs.Counts.{is_between, count_in, item_number}
use Rattle.vc_model_lines.specs.Forms as forms
use Rattle.vc_model_lines.specs.Forms.{form_of, is_word, one_name}
use Rattle.vc_model_lines.specs.Keywords.{keyword_of}
use Rattle.vc_model_lines.specs.LineWords.{upper, words, after_words, has_word, trimmed, without_spaces_before}
use Rattle.vc_model_lines.specs.LineWords.{first_word}
use Rattle.vc_model_lines.specs.Quoted.{begins_with_quote, quoted_text}
use Rattle.vc_plan.specs.Spelling.{is_upper}
use Rattle.vc_model_laws.specs.Numbers.{is_small}
use Rattle.vc_model_laws.proofs.Holding.{each, each_map}
use Rattle.vc_model_laws.proofs.NumberLemmas.{read_small}
use Rattle.vc_model_laws.proofs.Utf8Lemmas.{each_utf8, EachText, after_words_is, lines_texts, quoted_is, trimmed_is}

-- no block holds a term
abbrev pub is_block_kind : Kind → Bool
is_block_kind kinds.Term = false
is_block_kind kind = true

abbrev pub is_formed : Line → Bool
is_formed (lines.Head head) = is_upper head.name && each (is_between 1 999999) head.version
is_formed (lines.Char char) = is_upper char.name && each (is_between 1 30) char.length
is_formed (lines.Num num) = is_upper num.name && (each (is_between 0 6) num.decimals && each is_upper num.unit)
is_formed (lines.Inner text) = is_utf8 text
is_formed (lines.Text text) = is_utf8 text
is_formed (lines.Interval interval) = each is_small interval.low && each is_small interval.high
is_formed (lines.Uses name) = is_upper name
is_formed (lines.Class name) = is_upper name
is_formed (lines.Has name) = is_upper name
is_formed (lines.Table table) = is_upper table.name
is_formed (lines.Column column) = is_upper column.characteristic
is_formed (lines.Net name) = is_upper name
is_formed (lines.Object object) = is_upper object.material && is_upper object.class
is_formed (lines.Bill bill) = is_upper bill.material && (is_upper bill.unit && each (is_between 0 9999) bill.item)
is_formed (lines.Operation operation) =
    is_upper operation.centre && (is_upper operation.unit && each (is_between 0 9999) operation.number)
is_formed (lines.Block block) = is_upper block.name && is_block_kind block.kind
is_formed (lines.Root material) = is_upper material
is_formed line = true

-- a word in upper case stays so
byte_stays : (byte : ℕ) → to_ascii_uppercase (to_ascii_uppercase byte) ≡ to_ascii_uppercase byte
byte_stays byte = grind (arith, nat_tests)

word_stays : (word : List ℕ) → map to_ascii_uppercase (upper word) ≡ upper word
word_stays [] = refl
word_stays (byte ∷ word) = ap (λ b. b ∷ map to_ascii_uppercase (upper word)) (byte_stays byte)
    ∙ ap (λ w. to_ascii_uppercase byte ∷ w) (word_stays word)

pub upper_is : (word : List ℕ) → is_upper (upper word) ≡ true
upper_is word = (bytes_decides (map to_ascii_uppercase (upper word)) (upper word)).1 (word_stays word)

-- a count is one of those that it may be
in_range : (test : Bool) (least most count : ℕ) → (test ≡ true → is_between least most count ≡ true)
    → each (is_between least most) (if test then Some count else None) ≡ true
in_range true least most count h = h refl
in_range false least most count h = refl

second : (x y : Bool) → (x && y) ≡ true → y ≡ true
second true y h = h
second false y h = absurd (cc)

count_is : (least most : ℕ) (word : List ℕ) → each (is_between least most) (count_in least most word) ≡ true
count_is least most word =
    in_range (are_digits word && is_between least most (number_of word)) least most (number_of word)
    (second (are_digits word) (is_between least most (number_of word)))

item_is : (word : List ℕ) → each (is_between 0 9999) (item_number word) ≡ true
item_is word = by (length word == 4)
  where
    by : (b : Bool) → each (is_between 0 9999) (if b then count_in 0 9999 word else None) ≡ true
    by true = count_is 0 9999 word
    by false = refl

-- each form is formed
formed_if : (b : Bool) (line : Line) → is_formed line ≡ true → each is_formed (if b then Some line else None) ≡ true
formed_if true line h = h
formed_if false line h = refl

formed_either : (b : Bool) (one other : Line) → is_formed one ≡ true → is_formed other ≡ true
    → is_formed (if b then one else other) ≡ true
formed_either true one other h g = h
formed_either false one other h g = g

one_named : (make : List ℕ → Line) → ((name : List ℕ) → is_formed (make (upper name)) ≡ true) → (ws : List (List ℕ))
    → each is_formed (option_map make (one_name ws)) ≡ true
one_named make h [] = refl
one_named make h (name ∷ []) = h name
one_named make h (name ∷ other ∷ ws) = refl

head_is : (ws : List (List ℕ)) → each is_formed (forms.head_line ws) ≡ true
head_is [] = refl
head_is (name ∷ []) = refl
head_is (name ∷ version ∷ []) = refl
head_is (name ∷ version ∷ number ∷ []) =
    formed_if (is_word (codes "VERSION") version)
    (lines.Head (record { name = upper name; version = count_in 1 999999 number }))
    (and_from (is_upper (upper name)) (each (is_between 1 999999) (count_in 1 999999 number)) (upper_is name)
    (count_is 1 999999 number))
head_is (name ∷ version ∷ number ∷ other ∷ ws) = refl

char_is : (ws : List (List ℕ)) → each is_formed (forms.char_line ws) ≡ true
char_is [] = refl
char_is (name ∷ []) = refl
char_is (name ∷ size ∷ flags) =
    let restrictable = has_word (codes "RESTRICTABLE") flags in
    let required = has_word (codes "REQUIRED") flags in
    let multiple = has_word (codes "MULTIPLE") flags in
    formed_if (length flags == forms.one_if restrictable + forms.one_if required + forms.one_if multiple)
    (lines.Char (record {
      name = upper name;
      length = count_in 1 30 size;
      restrictable = restrictable;
      required =
          required;
      multiple = multiple;
    }))
    (and_from (is_upper (upper name)) (each (is_between 1 30) (count_in 1 30 size)) (upper_is name)
    (count_is 1 30 size))

flagged_is : (name decimals : List ℕ) (flags : List (List ℕ)) (unit : Option (List ℕ))
    → each is_formed (forms.num_with_flags name decimals flags unit) ≡ true
flagged_is name decimals flags unit =
    let restrictable = has_word (codes "RESTRICTABLE") flags in
    let required = has_word (codes "REQUIRED") flags in
    let unit_upper : each is_upper (option_map upper unit) ≡ true = each_map is_upper upper unit upper_is in
    let rest : (each (is_between 0 6) (count_in 0 6 decimals) && each is_upper (option_map upper unit)) ≡ true =
    and_from (each (is_between 0 6) (count_in 0 6 decimals)) (each is_upper (option_map upper unit))
    (count_is 0 6 decimals) unit_upper in
    formed_if (length flags == forms.one_if restrictable + forms.one_if required)
    (lines.Num (record {
      name = upper name;
      decimals = count_in 0 6 decimals;
      restrictable = restrictable;
      required =
          required;
      unit = option_map upper unit;
    }))
    (and_from (is_upper (upper name)) (each (is_between 0 6) (count_in 0 6 decimals) && each is_upper
    (option_map upper unit)) (upper_is name) rest)

with_unit_is : (name decimals : List ℕ) (flags ws : List (List ℕ))
    → each is_formed (forms.num_with_unit name decimals flags ws) ≡ true
with_unit_is name decimals flags [] = refl
with_unit_is name decimals flags (unit ∷ []) = flagged_is name decimals flags (Some unit)
with_unit_is name decimals flags (unit ∷ other ∷ ws) = refl

num_at_is : (name decimals : List ℕ) (ws : List (List ℕ)) (place : Option ℕ)
    → each is_formed (forms.num_at name decimals ws place) ≡ true
num_at_is name decimals ws None = flagged_is name decimals ws None
num_at_is name decimals ws (Some place) = with_unit_is name decimals (take place ws) (drop (place + 1) ws)

num_is : (ws : List (List ℕ)) → each is_formed (forms.num_line ws) ≡ true
num_is [] = refl
num_is (name ∷ []) = refl
num_is (name ∷ decimals ∷ ws) = num_at_is name decimals ws (forms.unit_at ws)

interval_formed : (low high : List ℕ)
    → is_formed (lines.Interval (record { low = forms.number_in low; high = forms.number_in high })) ≡ true
interval_formed low high =
    and_from (each is_small (forms.number_in low)) (each is_small (forms.number_in high)) (read_small low)
    (read_small high)

between_is : (ws : List (List ℕ)) → each is_formed (forms.between_line ws) ≡ true
between_is [] = refl
between_is (low ∷ []) = refl
between_is (low ∷ dots ∷ []) = refl
between_is (low ∷ dots ∷ high ∷ []) =
    formed_if (is_word (codes "..") dots)
    (lines.Interval (record { low = forms.number_in low; high = forms.number_in high })) (interval_formed low high)
between_is (low ∷ dots ∷ high ∷ other ∷ ws) = refl

interval_is : (ws : List (List ℕ)) → each is_formed (forms.interval_line ws) ≡ true
interval_is [] = refl
interval_is (number ∷ []) = interval_formed number number
interval_is (low ∷ dots ∷ ws) = between_is (low ∷ dots ∷ ws)

text_is : (o : Option (List ℕ)) → each_utf8 o ≡ true → each is_formed (option_map lines.Text o) ≡ true
text_is None h = refl
text_is (Some text) h = h

value_is : (rest : List ℕ) (ws : List (List ℕ)) → IsUtf8 rest → each is_formed (forms.value_line rest ws) ≡ true
value_is rest ws h = by (begins_with_quote rest)
  where
    by : (b : Bool) → each is_formed (if b then option_map lines.Text (quoted_text rest) else forms.interval_line ws)
        ≡ true
    by true = text_is (quoted_text rest) (quoted_is rest h)
    by false = interval_is ws

table_is : (ws : List (List ℕ)) → each is_formed (forms.table_line ws) ≡ true
table_is [] = refl
table_is (name ∷ []) = refl
table_is (name ∷ fixed ∷ []) = refl
table_is (name ∷ fixed ∷ file ∷ []) = formed_if (is_word (codes "FILE") fixed)
    (lines.Table (record { name = upper name; file = file })) (upper_is name)
table_is (name ∷ fixed ∷ file ∷ other ∷ ws) = refl

column_is : (ws : List (List ℕ)) → each is_formed (forms.column_line ws) ≡ true
column_is [] = refl
column_is (name ∷ []) = upper_is name
column_is (name ∷ key ∷ []) = by (is_word (codes "KEY") key)
  where
    by : (b : Bool) → each is_formed (if b then forms.column name true else None) ≡ true
    by true = upper_is name
    by false = refl
column_is (name ∷ key ∷ other ∷ ws) = refl

object_is : (ws : List (List ℕ)) → each is_formed (forms.object_line ws) ≡ true
object_is [] = refl
object_is (material ∷ []) = refl
object_is (material ∷ fixed ∷ []) = refl
object_is (material ∷ fixed ∷ class ∷ []) =
    formed_if (is_word (codes "CLASS") fixed) (lines.Object (record { material = upper material; class = upper class }))
    (and_from (is_upper (upper material)) (is_upper (upper class)) (upper_is material) (upper_is class))
object_is (material ∷ fixed ∷ class ∷ other ∷ ws) = refl

bill_is : (term : List ℕ) (ws : List (List ℕ)) → each is_formed (forms.bill_line term ws) ≡ true
bill_is term [] = refl
bill_is term (item ∷ []) = refl
bill_is term (item ∷ material ∷ []) = refl
bill_is term (item ∷ material ∷ unit ∷ []) = refl
bill_is term (item ∷ material ∷ unit ∷ colon ∷ ws) =
    let rest : (is_upper (upper unit) && each (is_between 0 9999) (item_number item)) ≡ true =
    and_from (is_upper (upper unit)) (each (is_between 0 9999) (item_number item)) (upper_is unit) (item_is item) in
    formed_if (is_word (codes ":") colon)
    (lines.Bill (record { item = item_number item; material = upper material; unit = upper unit; quantity = term }))
    (and_from (is_upper (upper material)) (is_upper (upper unit) && each (is_between 0 9999) (item_number item))
    (upper_is material) rest)

operation_is : (term : List ℕ) (ws : List (List ℕ)) → each is_formed (forms.operation_line term ws) ≡ true
operation_is term [] = refl
operation_is term (number ∷ []) = refl
operation_is term (number ∷ centre ∷ []) = refl
operation_is term (number ∷ centre ∷ unit ∷ []) = refl
operation_is term (number ∷ centre ∷ unit ∷ colon ∷ ws) =
    let rest : (is_upper (upper unit) && each (is_between 0 9999) (item_number number)) ≡ true =
    and_from (is_upper (upper unit)) (each (is_between 0 9999) (item_number number)) (upper_is unit) (item_is number) in
    formed_if (is_word (codes ":") colon)
    (lines.Operation (record { number = item_number number; centre = upper centre; unit = upper unit; time = term }))
    (and_from (is_upper (upper centre)) (is_upper (upper unit) && each (is_between 0 9999) (item_number number))
    (upper_is centre) rest)

block_is : (kind : Kind) (ws : List (List ℕ)) → is_block_kind kind ≡ true
    → each is_formed (forms.block_line kind ws) ≡ true
block_is kind ws h =
    one_named (λ name. lines.Block (record { kind = kind; name = name }))
    (λ name. and_from (is_upper (upper name)) (is_block_kind kind) (upper_is name) h) ws

action_is : (ws : List (List ℕ)) → each is_formed (forms.action_line ws) ≡ true
action_is [] = refl
action_is (word ∷ []) = refl
action_is (word ∷ other ∷ ws) = refl

form_is : (k : Keyword) (text : List ℕ) (ws : List (List ℕ)) → IsUtf8 text → each is_formed (form_of k text ws) ≡ true
form_is keyword.Model text ws h = head_is ws
form_is keyword.Char text ws h = char_is ws
form_is keyword.Num text ws h = num_is ws
form_is keyword.Value text ws h = value_is (after_words 1 text) ws (after_words_is 1 text h)
form_is keyword.Uses text ws h = one_named lines.Uses upper_is ws
form_is keyword.Class text ws h = one_named lines.Class upper_is ws
form_is keyword.Has text ws h = one_named lines.Has upper_is ws
form_is keyword.Table text ws h = table_is ws
form_is keyword.Column text ws h = column_is ws
form_is keyword.Net text ws h = one_named lines.Net upper_is ws
form_is keyword.Object text ws h = object_is ws
form_is keyword.Line text ws h = bill_is (after_words 5 text) ws
form_is keyword.Operation text ws h = operation_is (after_words 5 text) ws
form_is keyword.Precondition text ws h = block_is kinds.Precondition ws refl
form_is keyword.Selection text ws h = block_is kinds.Selection ws refl
form_is keyword.Procedure text ws h = block_is kinds.Procedure ws refl
form_is keyword.Constraint text ws h = block_is kinds.Constraint ws refl
form_is keyword.Root text ws h = one_named lines.Root upper_is ws
form_is keyword.Action text ws h = action_is ws

-- so is each line of a text
formed_or : (o : Option Line) (k : Keyword) → each is_formed o ≡ true
    → is_formed (unwrap_or o (lines.NoForm (Some k))) ≡ true
formed_or None k h = refl
formed_or (Some line) k h = h

keyed_is : (text : List ℕ) (k : Option Keyword) → IsUtf8 text → is_formed (keyed_line text k) ≡ true
keyed_is text None h = refl
keyed_is text (Some k) h = formed_or (form_of k text (drop 1 (words text))) k (form_is k text (drop 1 (words text)) h)

counted_is : (raw text : List ℕ) → IsUtf8 raw → is_formed (counted raw text) ≡ true
counted_is raw text h =
    let rest = keyed_line (trimmed raw) (keyword_of (first_word text)) in
    formed_either (is_skipped text) lines.Skipped
    (if is_long raw then lines.TooLong (keyword_of (first_word text)) else rest) refl
    (formed_either (is_long raw) (lines.TooLong (keyword_of (first_word text))) rest refl
    (keyed_is (trimmed raw) (keyword_of (first_word text)) (trimmed_is raw h)))

inside_is : (raw : List ℕ) → IsUtf8 raw → is_formed (inside_block raw) ≡ true
inside_is raw h =
    let ends = same_ignoring_case (codes "END") (trimmed raw) in
    formed_either (is_long raw) lines.LongInner (if ends then lines.End else lines.Inner (trimmed raw)) refl
    (formed_either ends lines.End (lines.Inner (trimmed raw)) refl
    (is_utf8-from_IsUtf8 (trimmed raw) (trimmed_is raw h)))

line_is : (inside : Bool) (raw : List ℕ) → IsUtf8 raw → is_formed (line_of inside raw) ≡ true
line_is true raw h = inside_is raw h
line_is false raw h = counted_is raw (without_spaces_before raw) h

lines_are : (inside : Bool) (raws : List (List ℕ)) → EachText raws → list_all is_formed (lines_from inside raws) ≡ true
lines_are inside [] h = refl
lines_are inside (raw ∷ raws) h =
    let first = line_of inside raw in
    and_from (is_formed first) (list_all is_formed (lines_from (is_in_block first) raws)) (line_is inside raw h.0)
    (lines_are (is_in_block first) raws h.1)

pub lines_formed : (text : List ℕ) → IsUtf8 text → list_all is_formed (lines_of text) ≡ true
lines_formed text h = lines_are false (raw_lines text) (lines_texts text h)
