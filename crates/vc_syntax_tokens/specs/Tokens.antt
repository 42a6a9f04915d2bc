-- The tokens of a text, or its first bad token.
use Rattle.std.specs.Prelude.{ℕ, suc, zero, ◌+◌, ◌-◌, ◌≡◌, Bool, true, false, ◌==◌, ◌||◌, if◌then◌else◌, Result, Ok}
use Rattle.std.specs.Prelude.{Err, List, [], ◌∷◌, take}
use Rattle.vc_syntax_tokens.specs.declared.token.Token.{Token}
use Rattle.vc_syntax_tokens.specs.declared.fault.SyntaxKind.{SyntaxKind}
use Rattle.vc_syntax_tokens.specs.declared.fault.SyntaxFault.{SyntaxFault}
use Rattle.vc_syntax_tokens.specs.declared.fault.SyntaxFault.TheVariants.{Bad, OutOfMemory}
use Rattle.vc_syntax_tokens.specs.declared.lexing.Lexed.{Lexed}
use Rattle.vc_syntax_tokens.specs.declared.lexing.Place.{Place}
use Rattle.vc_syntax_tokens.specs.declared.lexing.Place.TheVariants.{LineStart, Inside, Comment}
use Rattle.vc_syntax_tokens.specs.Lexemes.{lexeme_at}

-- the byte belongs to no token: a space, a line's end, or a byte of a comment, which a `*` begins where only spaces
-- stand before it in its line
abbrev pub is_gap : Place → ℕ → Bool
is_gap LineStart byte = byte == 32 || (byte == 10 || byte == 42)
is_gap Inside byte = byte == 32 || byte == 10
is_gap Comment byte = true

abbrev pub inside_line : Place → ℕ → Place
inside_line LineStart byte = if byte == 42 then Comment else LineStart
inside_line Inside byte = Inside
inside_line Comment byte = Comment

-- where the byte after such a byte stands
abbrev pub place_after : Place → ℕ → Place
place_after place byte = if byte == 10 then LineStart else inside_line place byte

-- the token at the front, which stands at this place of the text
abbrev pub token_of : ℕ → Result Lexed SyntaxKind → Result Token SyntaxFault
token_of start (Ok lexed) = Ok record { lexeme = lexed.lexeme; start = start; end = start + lexed.length }
token_of start (Err kind) = Err (Bad kind start)

abbrev pub token_at : ℕ → List ℕ → Result Token SyntaxFault
token_at start bytes = token_of start (lexeme_at bytes)

-- a token before others, or the first fault
abbrev pub before : Result Token SyntaxFault → Result (List Token) SyntaxFault → Result (List Token) SyntaxFault
before (Err fault) tokens = Err fault
before (Ok token) (Err fault) = Err fault
before (Ok token) (Ok tokens) = Ok (token ∷ tokens)

-- how many bytes of the token follow its first
abbrev pub rest_length : ℕ → Result Token SyntaxFault → ℕ
rest_length start (Ok token) = token.end - (start + 1)
rest_length start (Err fault) = 0

-- the tokens of bytes that stand at start, of which the first skipped ones are the last token's
abbrev pub tokens_from : Place → ℕ → ℕ → List ℕ → Result (List Token) SyntaxFault
tokens_from place start skipped [] = Ok []
tokens_from place start (suc skipped) (byte ∷ bytes) = tokens_from place (start + 1) skipped bytes
tokens_from place start zero (byte ∷ bytes) = elim (is_gap place byte) [
  | true ↦ tokens_from (place_after place byte) (start + 1) 0 bytes
  | false ↦ before (token_at start (byte ∷ bytes))
      (tokens_from Inside (start + 1) (rest_length start (token_at start (byte ∷ bytes))) bytes)
]

-- the tokens of a text, or the first bad one with its kind and place
abbrev pub tokens_of : List ℕ → Result (List Token) SyntaxFault
tokens_of text = tokens_from LineStart 0 0 text

-- one more than a dependency may have, if there are so many: these tell whether there are too many
abbrev pub first_ones : Result (List Token) SyntaxFault → Result (List Token) SyntaxFault
first_ones (Err fault) = Err fault
first_ones (Ok tokens) = Ok (take 4001 tokens)

-- what was read is what a definition says, if memory sufficed
abbrev pub Gives : {A : Type 0} → Result A SyntaxFault → Result A SyntaxFault → Type 0
Gives (Ok answer) read = read ≡ Ok answer
Gives (Err OutOfMemory) read = Unit {0}
Gives (Err (Bad kind start)) read = read ≡ Err (Bad kind start)
