-- The numbers among the tokens of a text have at most nine digits before the point.
use Rattle.std.proofs.Common.{◌≡◌, ℕ, zero, suc, ◌+◌, Bool, true, false, nat_le, List, [], ◌∷◌, take, Option, Some}
use Rattle.std.proofs.Common.{None, Result, Ok, Err, refl, ◌∙◌, if◌then◌else◌}
use Rattle.std.specs.Prelude.{◌==◌}
use Rattle.std.specs.List.{list_all}
use Rattle.std.specs.Char.{is_ascii_digit}
use Rattle.std.specs.Result.{result_ok}
use Rattle.std.proofs.lemmas.Bool.{and_from}
use Rattle.vc_value.specs.Decimals.{read_number}
use Rattle.vc_value.specs.Names.{begins_name}
use Rattle.vc_value.specs.declared.decimal.Dec.{Dec}
use Rattle.vc_value.specs.declared.decimal.NumFault.{NumFault}
use Rattle.vc_syntax_tokens.specs.declared.fault.SyntaxFault.{SyntaxFault}
use Rattle.vc_syntax_tokens.specs.declared.fault.SyntaxKind.{SyntaxKind}
use Rattle.vc_syntax_tokens.specs.declared.fault.SyntaxKind.TheVariants as faults
use Rattle.vc_syntax_tokens.specs.declared.lexing.Lexed.{Lexed}
use Rattle.vc_syntax_tokens.specs.declared.lexing.Place.{Place}
use Rattle.vc_syntax_tokens.specs.declared.lexing.Place.TheVariants.{Inside, LineStart}
use Rattle.vc_syntax_tokens.specs.declared.token.Dollar.{Dollar}
use Rattle.vc_syntax_tokens.specs.declared.token.Lexeme.{Lexeme}
use Rattle.vc_syntax_tokens.specs.declared.token.Lexeme.TheVariants as lexemes
use Rattle.vc_syntax_tokens.specs.declared.token.Reserved.{Reserved}
use Rattle.vc_syntax_tokens.specs.declared.token.Sign.{Sign}
use Rattle.vc_syntax_tokens.specs.declared.token.Token.{Token}
use Rattle.vc_syntax_tokens.specs.Lexemes.{begins_with_name, closing_length, dollar_at, dollar_lexed, is_text, lexed}
use Rattle.vc_syntax_tokens.specs.Lexemes.{lexeme_at, lexeme_of_word, long_sign, long_sign_lexed, marked_at, name_at}
use Rattle.vc_syntax_tokens.specs.Lexemes.{name_length, named, number_at, number_length, number_lexed, short_sign}
use Rattle.vc_syntax_tokens.specs.Lexemes.{short_sign_lexed, sign_at, text_at, text_before_quote, text_lexed}
use Rattle.vc_syntax_tokens.specs.Lexemes.{variable_at, word_at}
use Rattle.vc_syntax_tokens.specs.Spellings.{dollar_of, reserved_of}
use Rattle.vc_syntax_tokens.specs.Tokens.{before, is_gap, place_after, rest_length, token_at, token_of, tokens_from}
use Rattle.vc_syntax_tokens.specs.Tokens.{tokens_of}
use Rattle.vc_plan.specs.Ranges.{is_stored}
use Rattle.vc_model_laws.specs.Numbers.{is_small}
use Rattle.vc_model_laws.proofs.Holding.{each}
use Rattle.vc_model_laws.proofs.NumberLemmas.{read_small}

-- whether a lexeme is no number, or one of so many digits
abbrev pub is_kept : Lexeme → Bool
is_kept (lexemes.Number number) = is_stored number
is_kept lexeme = true

abbrev pub AllKept : List Token → Type 0
AllKept ts = list_all (λ t. is_kept t.lexeme) ts ≡ true

-- what is lexed at the front
abbrev Lexes : Result Lexed SyntaxKind → Type 0
Lexes (Ok found) = is_kept found.lexeme ≡ true
Lexes (Err fault) = Unit {0}

word_kept : (word : List ℕ) (o : Option Reserved) → is_kept (named word o) ≡ true
word_kept word None = refl
word_kept word (Some reserved) = refl

name_lexes : (bytes : List ℕ) → Lexes (name_at bytes)
name_lexes bytes = by (nat_le (name_length bytes) 30)
  where
    by : (b : Bool) → Lexes
        (if b then lexed (lexeme_of_word (word_at bytes)) (name_length bytes) else Err faults.NameTooLong)
    by true = word_kept (word_at bytes) (reserved_of (word_at bytes))
    by false = tt

number_lexes : (r : Result Dec NumFault) (count : ℕ) → each is_small (result_ok r) ≡ true → Lexes (number_lexed r count)
number_lexes (Ok number) count h = h
number_lexes (Err fault) count h = tt

text_lexes : (o : Option (List ℕ)) (count : ℕ) → Lexes (text_lexed o count)
text_lexes None count = tt
text_lexes (Some text) count = by (is_text text)
  where
    by : (b : Bool) → Lexes (if b then lexed (lexemes.Text text) (1 + count) else Err faults.TextTooLong)
    by true = refl
    by false = tt

dollar_lexes : (o : Option Dollar) (count : ℕ) → Lexes (dollar_lexed o count)
dollar_lexes None count = tt
dollar_lexes (Some dollar) count = refl

variable_lexes : (bytes : List ℕ) → Lexes (variable_at bytes)
variable_lexes bytes = by (begins_with_name bytes) (nat_le (name_length bytes) 30)
  where
    by : (b c : Bool)
        → Lexes (if b then (if c
        then lexed (lexemes.Variable (word_at bytes)) (1 + name_length bytes) else Err faults.NameTooLong)
        else Err faults.UnknownWord)
    by true true = refl
    by true false = tt
    by false c = tt

short_lexes : (o : Option Sign) → Lexes (short_sign_lexed o)
short_lexes None = tt
short_lexes (Some sign) = refl

long_lexes : (o : Option Sign) (shorter : Result Lexed SyntaxKind) → Lexes shorter → Lexes (long_sign_lexed o shorter)
long_lexes None shorter h = h
long_lexes (Some sign) shorter h = refl

marked_lexes : (byte : ℕ) (bytes : List ℕ) → Lexes (marked_at byte bytes)
marked_lexes byte bytes = by (byte == 39) (byte == 36) (byte == 63)
  where
    by : (quote dollar variable : Bool)
        → Lexes (if quote then text_at bytes else if dollar then dollar_at bytes else if variable
        then variable_at bytes else sign_at byte bytes)
    by true dollar variable = text_lexes (text_before_quote false bytes) (closing_length false bytes)
    by false true variable = dollar_lexes (dollar_of (word_at bytes)) (name_length bytes)
    by false false true = variable_lexes bytes
    by false false false =
        long_lexes (long_sign byte bytes) (short_sign_lexed (short_sign byte bytes))
        (short_lexes (short_sign byte bytes))

front_lexes : (byte : ℕ) (bytes : List ℕ) → Lexes (lexeme_at (byte ∷ bytes))
front_lexes byte bytes = by (begins_name byte) (is_ascii_digit byte)
  where
    by : (name digit : Bool)
        → Lexes (if name then name_at (byte ∷ bytes) else if digit
        then number_at (byte ∷ bytes) else marked_at byte bytes)
    by true digit = name_lexes (byte ∷ bytes)
    by false true =
        let word = take (number_length (byte ∷ bytes)) (byte ∷ bytes) in
        number_lexes (read_number word) (number_length (byte ∷ bytes)) (read_small word)
    by false false = marked_lexes byte bytes

-- the tokens of a text
abbrev IsKeptToken : Result Token SyntaxFault → Type 0
IsKeptToken (Ok token) = is_kept token.lexeme ≡ true
IsKeptToken (Err fault) = Unit {0}

abbrev AreKept : Result (List Token) SyntaxFault → Type 0
AreKept (Ok ts) = AllKept ts
AreKept (Err fault) = Unit {0}

token_kept : (start : ℕ) (r : Result Lexed SyntaxKind) → Lexes r → IsKeptToken (token_of start r)
token_kept start (Ok found) h = h
token_kept start (Err fault) h = tt

before_kept : (token : Result Token SyntaxFault) (rest : Result (List Token) SyntaxFault) → IsKeptToken token
    → AreKept rest
    → AreKept (before token rest)
before_kept (Err fault) rest h g = tt
before_kept (Ok token) (Err fault) h g = tt
before_kept (Ok token) (Ok ts) h g = and_from (is_kept token.lexeme) (list_all (λ t. is_kept t.lexeme) ts) h g

tokens_kept : (place : Place) (start skipped : ℕ) (bytes : List ℕ) → AreKept (tokens_from place start skipped bytes)
tokens_kept place start skipped [] = refl
tokens_kept place start (suc skipped) (byte ∷ bytes) = tokens_kept place (start + 1) skipped bytes
tokens_kept place start zero (byte ∷ bytes) =
    by (is_gap place byte) (tokens_kept (place_after place byte) (start + 1) 0 bytes)
    (before_kept (token_at start (byte ∷ bytes)) (tokens_from Inside (start + 1)
    (rest_length start (token_at start (byte ∷ bytes))) bytes)
    (token_kept start (lexeme_at (byte ∷ bytes)) (front_lexes byte bytes))
    (tokens_kept Inside (start + 1) (rest_length start (token_at start (byte ∷ bytes))) bytes))
  where
    by : (gap : Bool) → AreKept (tokens_from (place_after place byte) (start + 1) 0 bytes)
        → AreKept (before (token_at start (byte ∷ bytes))
        (tokens_from Inside (start + 1) (rest_length start (token_at start (byte ∷ bytes))) bytes))
        → AreKept (elim gap [
          | true ↦ tokens_from (place_after place byte) (start + 1) 0 bytes
          | false ↦ before (token_at start (byte ∷ bytes))
              (tokens_from Inside (start + 1) (rest_length start (token_at start (byte ∷ bytes))) bytes)
        ])
    by true skipped here = skipped
    by false skipped here = here

kept_if : (r : Result (List Token) SyntaxFault) (ts : List Token) → r ≡ Ok ts → AreKept r → AllKept ts
kept_if (Ok found) ts e h = let same : found ≡ ts = cc in of found ts same h
  where
    of : (a b : List Token) → a ≡ b → AllKept a → AllKept b
    of a b e h = let all : list_all (λ t. is_kept t.lexeme) b ≡ list_all (λ t. is_kept t.lexeme) a = cc in all ∙ h
kept_if (Err fault) ts e h = absurd (cc)

pub text_kept : (text : List ℕ) (ts : List Token) → tokens_of text ≡ Ok ts → AllKept ts
text_kept text ts e = kept_if (tokens_of text) ts e (tokens_kept LineStart 0 0 text)
