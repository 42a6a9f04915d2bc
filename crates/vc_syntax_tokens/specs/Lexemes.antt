-- The lexeme at the front of a text, by its first byte, and how many bytes it takes.
use Rattle.std.specs.Prelude.{ℕ, ◌+◌, ◌≡◌, Bool, true, false, ◌==◌, ◌&&◌, not, nat_lt, nat_le, Option, Some, None}
use Rattle.std.specs.Prelude.{option_map, Result, Ok, Err, List, [], ◌∷◌, ◌++◌, take, drop, map, count_by}
use Rattle.std.specs.Prelude.{if◌then◌else◌}
use Rattle.std.specs.List.{prefix_len}
use Rattle.std.specs.Char.{is_ascii_digit, to_ascii_uppercase}
use Rattle.vc_value.specs.Names.{begins_name, is_name_byte}
use Rattle.vc_value.specs.Decimals.{read_number}
use Rattle.vc_value.specs.declared.decimal.Dec.{Dec}
use Rattle.vc_value.specs.declared.decimal.NumFault.{NumFault}
use Rattle.vc_syntax_tokens.specs.declared.token.Lexeme.{Lexeme}
use Rattle.vc_syntax_tokens.specs.declared.token.Lexeme.TheVariants.{Name, Reserved, Variable, Dollar, Text, Number}
use Rattle.vc_syntax_tokens.specs.declared.token.Lexeme.TheVariants.{Sign}
use Rattle.vc_syntax_tokens.specs.declared.token.Reserved as words
use Rattle.vc_syntax_tokens.specs.declared.token.Dollar as words_of_dollar
use Rattle.vc_syntax_tokens.specs.declared.token.Sign as signs
use Rattle.vc_syntax_tokens.specs.declared.token.Sign.TheVariants.{Dot, Period}
use Rattle.vc_syntax_tokens.specs.declared.fault.SyntaxKind.{SyntaxKind}
use Rattle.vc_syntax_tokens.specs.declared.fault.SyntaxKind.TheVariants.{BadByte, OpenText, TextTooLong, NumberTooWide}
use Rattle.vc_syntax_tokens.specs.declared.fault.SyntaxKind.TheVariants.{NameTooLong, UnknownWord}
use Rattle.vc_syntax_tokens.specs.declared.lexing.Lexed.{Lexed}
use Rattle.vc_syntax_tokens.specs.declared.lexing.LexFault.{LexFault}
use Rattle.vc_syntax_tokens.specs.declared.lexing.LexFault.TheVariants.{Bad, OutOfMemory}
use Rattle.vc_syntax_tokens.specs.Spellings.{reserved_of, dollar_of, sign_of_pair, sign_of_byte}

-- a lexeme of so many bytes
abbrev pub lexed : Lexeme → ℕ → Result Lexed SyntaxKind
lexed lexeme count = Ok record { lexeme = lexeme; length = count }

-- how many bytes of a name stand at the front
abbrev pub name_length : List ℕ → ℕ
name_length bytes = prefix_len is_name_byte bytes

-- the word at the front, in upper case
abbrev pub word_at : List ℕ → List ℕ
word_at bytes = map to_ascii_uppercase (take (name_length bytes) bytes)

-- a word is a reserved one or a name
abbrev pub named : List ℕ → Option words.Reserved → Lexeme
named word None = Name word
named word (Some reserved) = Reserved reserved

abbrev pub lexeme_of_word : List ℕ → Lexeme
lexeme_of_word word = named word (reserved_of word)

-- a name or a reserved word
abbrev pub name_at : List ℕ → Result Lexed SyntaxKind
name_at bytes = if nat_le (name_length bytes) 30
    then lexed (lexeme_of_word (word_at bytes)) (name_length bytes) else Err NameTooLong

-- how many digits stand at the front
abbrev pub digits_length : List ℕ → ℕ
digits_length bytes = prefix_len is_ascii_digit bytes

-- how many bytes a point and the digits after it take at the front: a point without digits isn't the number's
abbrev pub fraction_length : List ℕ → ℕ
fraction_length [] = 0
fraction_length (byte ∷ bytes) = if byte == 46 && not (digits_length bytes == 0) then 1 + digits_length bytes else 0

-- how many bytes a number takes at the front
abbrev pub number_length : List ℕ → ℕ
number_length bytes = digits_length bytes + fraction_length (drop (digits_length bytes) bytes)

abbrev pub number_lexed : Result Dec NumFault → ℕ → Result Lexed SyntaxKind
number_lexed (Ok number) count = lexed (Number number) count
number_lexed (Err fault) count = Err NumberTooWide

-- digits, and optionally a point and digits
abbrev pub number_at : List ℕ → Result Lexed SyntaxKind
number_at bytes = number_lexed (read_number (take (number_length bytes) bytes)) (number_length bytes)

-- a quote that closes the text unless another follows, where after_quote says that such a one stands before it
abbrev pub may_close : Bool → ℕ → Bool
may_close after_quote byte = not after_quote && (byte == 39)

-- a text with a byte more, unless it is the first of two quotes or the last
abbrev pub with_byte : List ℕ → Bool → ℕ → List ℕ
with_byte text after_quote byte = if may_close after_quote byte then text else text ++ byte ∷ []

-- the text before the quote that closes it, each doubled quote made single
abbrev pub text_before_quote : Bool → List ℕ → Option (List ℕ)
text_before_quote false [] = None
text_before_quote true [] = Some []
text_before_quote false (byte ∷ bytes) =
    option_map (λ text. if byte == 39 then text else byte ∷ text) (text_before_quote (byte == 39) bytes)
text_before_quote true (byte ∷ bytes) = if byte == 39
    then option_map (λ text. 39 ∷ text) (text_before_quote false bytes) else Some []

-- how many bytes come up to the quote that closes the text, itself among them
abbrev pub closing_length : Bool → List ℕ → ℕ
closing_length after_quote [] = 0
closing_length false (byte ∷ bytes) = 1 + closing_length (byte == 39) bytes
closing_length true (byte ∷ bytes) = if byte == 39 then 1 + closing_length false bytes else 0

-- a byte that doesn't go on a character of UTF-8
abbrev pub begins_character : ℕ → Bool
begins_character byte = not (nat_le 128 byte && nat_lt byte 192)

-- how many characters a text has
abbrev pub character_count : List ℕ → ℕ
character_count text = count_by begins_character text

-- a text of 1 to 30 characters
abbrev pub is_text : List ℕ → Bool
is_text text = nat_le 1 (character_count text) && nat_le (character_count text) 30

abbrev pub text_lexed : Option (List ℕ) → ℕ → Result Lexed SyntaxKind
text_lexed None count = Err OpenText
text_lexed (Some text) count = if is_text text then lexed (Text text) (1 + count) else Err TextTooLong

-- a text, after its opening quote
abbrev pub text_at : List ℕ → Result Lexed SyntaxKind
text_at bytes = text_lexed (text_before_quote false bytes) (closing_length false bytes)

abbrev pub dollar_lexed : Option words_of_dollar.Dollar → ℕ → Result Lexed SyntaxKind
dollar_lexed None count = Err UnknownWord
dollar_lexed (Some dollar) count = lexed (Dollar dollar) (1 + count)

-- what follows a `$`
abbrev pub dollar_at : List ℕ → Result Lexed SyntaxKind
dollar_at bytes = dollar_lexed (dollar_of (word_at bytes)) (name_length bytes)

-- a letter or `_` stands at the front
abbrev pub begins_with_name : List ℕ → Bool
begins_with_name [] = false
begins_with_name (byte ∷ bytes) = begins_name byte

-- what follows a `?`: a name
abbrev pub variable_at : List ℕ → Result Lexed SyntaxKind
variable_at bytes =
    if begins_with_name bytes
    then (if nat_le (name_length bytes) 30
    then lexed (Variable (word_at bytes)) (1 + name_length bytes) else Err NameTooLong)
    else Err UnknownWord

-- a dot where a letter or `_` follows at once, else a period
abbrev pub point_before : List ℕ → signs.Sign
point_before bytes = if begins_with_name bytes then Dot else Period

-- the sign that a byte is alone, before what follows it
abbrev pub short_sign : ℕ → List ℕ → Option signs.Sign
short_sign byte following = if byte == 46 then Some (point_before following) else sign_of_byte byte

-- the sign that a byte and the next are together
abbrev pub long_sign : ℕ → List ℕ → Option signs.Sign
long_sign byte [] = None
long_sign byte (next ∷ following) = sign_of_pair byte next

abbrev pub short_sign_lexed : Option signs.Sign → Result Lexed SyntaxKind
short_sign_lexed None = Err BadByte
short_sign_lexed (Some sign) = lexed (Sign sign) 1

abbrev pub long_sign_lexed : Option signs.Sign → Result Lexed SyntaxKind → Result Lexed SyntaxKind
long_sign_lexed None shorter = shorter
long_sign_lexed (Some sign) shorter = lexed (Sign sign) 2

-- a sign of two bytes where there is one, else of one byte
abbrev pub sign_at : ℕ → List ℕ → Result Lexed SyntaxKind
sign_at byte following = long_sign_lexed (long_sign byte following) (short_sign_lexed (short_sign byte following))

-- what a quote, a `$` or a `?` begins, or a sign
abbrev pub marked_at : ℕ → List ℕ → Result Lexed SyntaxKind
marked_at byte bytes =
    if byte == 39 then text_at bytes
    else if byte == 36 then dollar_at bytes
    else if byte == 63 then variable_at bytes
    else sign_at byte bytes

-- the lexeme at the front, or the kind of its fault
abbrev pub lexeme_at : List ℕ → Result Lexed SyntaxKind
lexeme_at [] = Err BadByte
lexeme_at (byte ∷ bytes) =
    if begins_name byte then name_at (byte ∷ bytes)
    else if is_ascii_digit byte then number_at (byte ∷ bytes)
    else marked_at byte bytes

-- what was lexed is what a definition says, if memory sufficed
abbrev pub Lexes : Result Lexed LexFault → Result Lexed SyntaxKind → Type 0
Lexes (Ok answer) read = read ≡ Ok answer
Lexes (Err OutOfMemory) read = Unit {0}
Lexes (Err (Bad kind)) read = read ≡ Err kind
