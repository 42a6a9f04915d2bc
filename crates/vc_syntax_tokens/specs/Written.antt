-- Which lists of lexemes are told apart again in their canonical text.
use Rattle.std.specs.Prelude.{ℕ, ◌^◌, pos, Bool, true, false, ◌&&◌, ◌||◌, not, Option, Some, None, List, [], ◌∷◌, map}
use Rattle.std.specs.Char.{to_ascii_uppercase}
use Rattle.std.specs.Str.{bytes_eq}
use Rattle.std.specs.Int.Signed.{lt_z, le_z}
use Rattle.vc_value.specs.Names.{is_name}
use Rattle.vc_value.specs.declared.decimal.Dec.{Dec}
use Rattle.vc_syntax_tokens.specs.declared.token.Lexeme.{Lexeme}
use Rattle.vc_syntax_tokens.specs.declared.token.Lexeme.TheVariants.{Name, Reserved, Variable, Dollar, Text, Number}
use Rattle.vc_syntax_tokens.specs.declared.token.Lexeme.TheVariants.{Sign}
use Rattle.vc_syntax_tokens.specs.declared.token.Reserved as words
use Rattle.vc_syntax_tokens.specs.declared.token.Sign.TheVariants.{Star}
use Rattle.vc_syntax_tokens.specs.Spellings.{reserved_of}
use Rattle.vc_syntax_tokens.specs.Lexemes.{is_text}
use Rattle.vc_syntax_tokens.specs.Texts.{is_dot, is_period}

-- a word without small letters
abbrev pub is_upper : List ℕ → Bool
is_upper word = bytes_eq (map to_ascii_uppercase word) word

abbrev pub is_unreserved : Option words.Reserved → Bool
is_unreserved None = true
is_unreserved (Some word) = false

-- a number without a minus that is stored
abbrev pub is_unsigned : Dec → Bool
is_unsigned number = le_z (pos 0) number.millionths && lt_z number.millionths (pos (10 ^ 15))

-- names are spelled as names in upper case, and texts and numbers have the lengths that a text allows them
abbrev pub is_lexeme : Lexeme → Bool
is_lexeme (Name word) = (is_name word && is_upper word) && is_unreserved (reserved_of word)
is_lexeme (Reserved word) = true
is_lexeme (Variable word) = is_name word && is_upper word
is_lexeme (Dollar word) = true
is_lexeme (Text text) = is_text text
is_lexeme (Number number) = is_unsigned number
is_lexeme (Sign sign) = true

abbrev pub is_word : Lexeme → Bool
is_word (Name word) = true
is_word (Reserved word) = true
is_word lexeme = false

abbrev pub is_star : Lexeme → Bool
is_star (Sign Star) = true
is_star lexeme = false

-- a word follows a dot, and no `*` a period, where it would begin a comment
abbrev pub stands_before : Lexeme → List Lexeme → Bool
stands_before lexeme [] = not (is_dot lexeme)
stands_before lexeme (next ∷ lexemes) = (not (is_dot lexeme) || is_word next) && not (is_period lexeme && is_star next)

abbrev pub stand_together : List Lexeme → Bool
stand_together [] = true
stand_together (lexeme ∷ lexemes) = (is_lexeme lexeme && stands_before lexeme lexemes) && stand_together lexemes

-- the first is no `*`
abbrev pub begins_no_comment : List Lexeme → Bool
begins_no_comment [] = true
begins_no_comment (lexeme ∷ lexemes) = not (is_star lexeme)

-- the lexemes are those of some text
abbrev pub are_lexemes : List Lexeme → Bool
are_lexemes lexemes = begins_no_comment lexemes && stand_together lexemes
