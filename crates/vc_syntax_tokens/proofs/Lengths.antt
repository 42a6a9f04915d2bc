-- A lexeme takes one byte or more of those at hand.
use Rattle.std.proofs.Common.{◌≡◌, ℕ, ◌+◌, ◌<◌, ◌≤◌, Bool, true, false, not, List, [], ◌∷◌, length, drop, take, get_or}
use Rattle.std.proofs.Common.{cond, Option, Some, None, Result, Ok, Err, refl, arith, subst, length-drop}
use Rattle.std.specs.Prelude.{◌==◌, ◌&&◌, nat_le}
use Rattle.std.specs.List.{prefix_len}
use Rattle.std.specs.Char.{is_ascii_digit}
use Rattle.vc_value.specs.Names.{begins_name, is_name_byte}
use Rattle.vc_value.specs.Decimals.{read_number}
use Rattle.vc_value.specs.declared.decimal.Dec.{Dec}
use Rattle.vc_value.specs.declared.decimal.NumFault.{NumFault}
use Rattle.vc_syntax_tokens.specs.declared.fault.SyntaxKind.{SyntaxKind}
use Rattle.vc_syntax_tokens.specs.declared.token.Dollar as words_of_dollar
use Rattle.vc_syntax_tokens.specs.declared.token.Sign as signs
use Rattle.vc_syntax_tokens.specs.declared.lexing.Lexed.{Lexed}
use Rattle.vc_syntax_tokens.specs.Spellings.{dollar_of}
use Rattle.vc_syntax_tokens.specs.Lexemes.{lexeme_at, marked_at, name_at, number_at, variable_at, sign_at, name_length}
use Rattle.vc_syntax_tokens.specs.Lexemes.{digits_length, fraction_length, number_length, number_lexed, closing_length}
use Rattle.vc_syntax_tokens.specs.Lexemes.{text_before_quote, text_lexed, dollar_lexed, long_sign, short_sign}
use Rattle.vc_syntax_tokens.specs.Lexemes.{long_sign_lexed, short_sign_lexed, is_text, begins_with_name, word_at}

-- one byte or more, and at most so many
abbrev pub Within : ℕ → Result Lexed SyntaxKind → Type 0
Within most (Ok lexed) = (0 < lexed.length) × (lexed.length ≤ most)
Within most (Err kind) = Unit {0}

either : (most : ℕ) (b : Bool) (x y : Result Lexed SyntaxKind) → (b ≡ true → Within most x)
    → (b ≡ false → Within most y) → Within most (cond b x y)
either most true x y f g = f refl
either most false x y f g = g refl

prefix_within : (p : ℕ → Bool) (bytes : List ℕ) → prefix_len p bytes ≤ length bytes
prefix_within p [] = omega arith
prefix_within p (byte ∷ bytes) = elim (p byte) as (λ b. cond b (1 + prefix_len p bytes) 0 ≤ length (byte ∷ bytes)) [
  | true ↦ omega (arith, prefix_within p bytes)
  | false ↦ omega arith
]

prefix_some : (p : ℕ → Bool) (byte : ℕ) (bytes : List ℕ) → p byte ≡ true → 0 < prefix_len p (byte ∷ bytes)
prefix_some p byte bytes h = rw h (omega arith)

begins_goes_on : (byte : ℕ) → begins_name byte ≡ true → is_name_byte byte ≡ true
begins_goes_on byte h = grind arith

name_within : (byte : ℕ) (bytes : List ℕ) → begins_name byte ≡ true
    → Within (length (byte ∷ bytes)) (name_at (byte ∷ bytes))
name_within byte bytes h = either (length (byte ∷ bytes)) (nat_le (name_length (byte ∷ bytes)) 30) _ _
    (λ e. (prefix_some is_name_byte byte bytes (begins_goes_on byte h), prefix_within is_name_byte (byte ∷ bytes)))
    (λ e. tt)

fraction_within : (bytes : List ℕ) → fraction_length bytes ≤ length bytes
fraction_within [] = omega arith
fraction_within (byte ∷ bytes) =
    elim (byte == 46 && not (digits_length bytes == 0)) as
    (λ b. cond b (1 + digits_length bytes) 0 ≤ length (byte ∷ bytes)) [
      | true ↦ omega (arith, prefix_within is_ascii_digit bytes)
      | false ↦ omega arith
    ]

number_lexed_within : (most count : ℕ) (number : Result Dec NumFault) → 0 < count → count ≤ most
    → Within most (number_lexed number count)
number_lexed_within most count (Ok number) low high = (low, high)
number_lexed_within most count (Err fault) low high = tt

number_within : (byte : ℕ) (bytes : List ℕ) → is_ascii_digit byte ≡ true
    → Within (length (byte ∷ bytes)) (number_at (byte ∷ bytes))
number_within byte bytes h =
    let whole = digits_length (byte ∷ bytes) in
    let some : 0 < digits_length (byte ∷ bytes) = prefix_some is_ascii_digit byte bytes h in
    let most : digits_length (byte ∷ bytes) ≤ length (byte ∷ bytes) = prefix_within is_ascii_digit (byte ∷ bytes) in
    let more : fraction_length (drop whole (byte ∷ bytes)) ≤ length (drop whole (byte ∷ bytes))
    = fraction_within (drop whole (byte ∷ bytes)) in
    number_lexed_within (length (byte ∷ bytes)) (number_length (byte ∷ bytes))
    (read_number (take (number_length (byte ∷ bytes)) (byte ∷ bytes))) (omega (arith, some))
    (omega (arith, most, more, length-drop {A = ℕ}))

closing_within : (after_quote : Bool) (bytes : List ℕ) → closing_length after_quote bytes ≤ length bytes
closing_within after_quote [] = omega arith
closing_within false (byte ∷ bytes) = omega (arith, closing_within (byte == 39) bytes)
closing_within true (byte ∷ bytes) =
    elim (byte == 39) as (λ b. cond b (1 + closing_length false bytes) 0 ≤ length (byte ∷ bytes)) [
      | true ↦ omega (arith, closing_within false bytes)
      | false ↦ omega arith
    ]

text_within : (most count : ℕ) (text : Option (List ℕ)) → 1 + count ≤ most → Within most (text_lexed text count)
text_within most count None h = tt
text_within most count (Some text) h = either most (is_text text) _ _ (λ e. (omega arith, h)) (λ e. tt)

dollar_within : (most count : ℕ) (dollar : Option words_of_dollar.Dollar) → 1 + count ≤ most
    → Within most (dollar_lexed dollar count)
dollar_within most count None h = tt
dollar_within most count (Some dollar) h = (omega arith, h)

variable_within : (byte : ℕ) (bytes : List ℕ) → Within (length (byte ∷ bytes)) (variable_at bytes)
variable_within byte bytes = either (length (byte ∷ bytes)) (begins_with_name bytes) _ _
    (λ e. either (length (byte ∷ bytes)) (nat_le (name_length bytes) 30) _ _
    (λ e. (omega arith, omega (arith, prefix_within is_name_byte bytes))) (λ e. tt))
    (λ e. tt)

short_within : (most : ℕ) (sign : Option signs.Sign) → 1 ≤ most → Within most (short_sign_lexed sign)
short_within most None h = tt
short_within most (Some sign) h = (omega arith, h)

sign_within : (byte : ℕ) (bytes : List ℕ) → Within (length (byte ∷ bytes)) (sign_at byte bytes)
sign_within byte [] = short_within 1 (short_sign byte []) (omega arith)
sign_within byte (next ∷ bytes) = by (long_sign byte (next ∷ bytes))
  where
    by : (long : Option signs.Sign)
        → Within (length (byte ∷ next ∷ bytes))
        (long_sign_lexed long (short_sign_lexed (short_sign byte (next ∷ bytes))))
    by None = short_within (length (byte ∷ next ∷ bytes)) (short_sign byte (next ∷ bytes)) (omega arith)
    by (Some sign) = (omega arith, omega arith)

marked_within : (byte : ℕ) (bytes : List ℕ) → Within (length (byte ∷ bytes)) (marked_at byte bytes)
marked_within byte bytes =
    let most = length (byte ∷ bytes) in
    either most (byte == 39) _ _
    (λ e. text_within most (closing_length false bytes) (text_before_quote false bytes)
    (omega (arith, closing_within false bytes)))
    (λ e. either most (byte == 36) _ _
    (λ e. dollar_within most (name_length bytes) (dollar_of (word_at bytes))
    (omega (arith, prefix_within is_name_byte bytes)))
    (λ e. either most (byte == 63) _ _ (λ e. variable_within byte bytes)
    (λ e. sign_within byte bytes)))

lexeme_within : (bytes : List ℕ) → Within (length bytes) (lexeme_at bytes)
lexeme_within [] = tt
lexeme_within (byte ∷ bytes) =
    let most = length (byte ∷ bytes) in
    either most (begins_name byte) _ _ (λ e. name_within byte bytes e)
    (λ e. either most (is_ascii_digit byte) _ _ (λ e. number_within byte bytes e)
    (λ e. marked_within byte bytes))

pub lexed_within : (bytes : List ℕ) (lexed : Lexed) → lexeme_at bytes ≡ Ok lexed
    → (0 < lexed.length) × (lexed.length ≤ length bytes)
lexed_within bytes lexed e = subst (Within (length bytes)) e (lexeme_within bytes)

-- a first byte that begins no name and is no digit
pub marked : (bytes : List ℕ) → 1 ≤ length bytes → begins_name (get_or bytes 0 0) ≡ false
    → is_ascii_digit (get_or bytes 0 0) ≡ false
    → lexeme_at bytes ≡ marked_at (get_or bytes 0 0) (drop 1 bytes)
marked [] some h e = absurd (omega arith)
marked (byte ∷ bytes) some h e = rw (h, e) refl
