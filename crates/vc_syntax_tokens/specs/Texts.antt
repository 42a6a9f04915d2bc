-- The canonical text of a dependency's lexemes.
use Rattle.std.specs.Prelude.{ℕ, Bool, true, false, ◌==◌, ◌||◌, List, [], ◌∷◌, ◌++◌, if◌then◌else◌}
use Rattle.vc_value.specs.Numerals.{number_text}
use Rattle.vc_syntax_tokens.specs.declared.token.Lexeme.{Lexeme}
use Rattle.vc_syntax_tokens.specs.declared.token.Lexeme.TheVariants.{Name, Reserved, Variable, Dollar, Text, Number}
use Rattle.vc_syntax_tokens.specs.declared.token.Lexeme.TheVariants.{Sign}
use Rattle.vc_syntax_tokens.specs.declared.token.Sign.TheVariants.{Dot, Period}
use Rattle.vc_syntax_tokens.specs.Spellings.{reserved_spelling, dollar_spelling, sign_spelling}

-- a byte of a text, a quote twice
abbrev pub doubled_byte : ℕ → List ℕ
doubled_byte byte = if byte == 39 then 39 ∷ 39 ∷ [] else byte ∷ []

-- a text with each quote doubled
abbrev pub doubled : List ℕ → List ℕ
doubled [] = []
doubled (byte ∷ bytes) = doubled_byte byte ++ doubled bytes

-- a text in quotes
abbrev pub quoted : List ℕ → List ℕ
quoted text = 39 ∷ (doubled text ++ 39 ∷ [])

-- how a lexeme is printed
abbrev pub lexeme_text : Lexeme → List ℕ
lexeme_text (Name word) = word
lexeme_text (Reserved word) = reserved_spelling word
lexeme_text (Variable word) = 63 ∷ word
lexeme_text (Dollar word) = 36 ∷ dollar_spelling word
lexeme_text (Text text) = quoted text
lexeme_text (Number number) = number_text number
lexeme_text (Sign sign) = sign_spelling sign

abbrev pub is_dot : Lexeme → Bool
is_dot (Sign Dot) = true
is_dot lexeme = false

abbrev pub is_period : Lexeme → Bool
is_period (Sign Period) = true
is_period lexeme = false

-- what stands between two lexemes: nothing next to a dot, a line's end after a period, else a space
abbrev pub gap : Lexeme → Lexeme → List ℕ
gap lexeme next = if is_dot lexeme || is_dot next then [] else if is_period lexeme then 10 ∷ [] else 32 ∷ []

-- what stands between a lexeme and those that follow it
abbrev pub gap_after : Lexeme → List Lexeme → List ℕ
gap_after lexeme [] = []
gap_after lexeme (next ∷ lexemes) = gap lexeme next

-- the lexemes' text: a space between two, but none round a dot, and each section on a line of its own
abbrev pub text_of : List Lexeme → List ℕ
text_of [] = []
text_of (lexeme ∷ lexemes) = lexeme_text lexeme ++ (gap_after lexeme lexemes ++ text_of lexemes)
