-- The texts among the tokens of a text of UTF-8 are texts.
use Rattle.std.proofs.Common.{◌≤◌}
use Rattle.std.proofs.Common.{◌≡◌, ℕ, zero, suc, ◌+◌, ◌<◌, Bool, true, false, nat_lt, nat_le}
use Rattle.std.proofs.Common.{List, [], ◌∷◌, ◌++◌}
use Rattle.std.proofs.Common.{length, take, Option, Some, None, Result, Ok, Err, IsUtf8, if◌then◌else◌}
use Rattle.std.proofs.Common.{refl, sym, subst, append_assoc, append-nil, arith}
use Rattle.std.specs.Prelude.{◌==◌, option_map}
use Rattle.std.specs.List.{filter, list_all}
use Rattle.std.specs.Char.{is_ascii_digit}
use Rattle.std.specs.Str.{is_utf8}
use Rattle.std.proofs.lemmas.Bool.{and_parts, and_from, eqb-true, leb-true, lt-ltb, le-leb}
use Rattle.std.proofs.lemmas.Str.{IsUtf8-append, is_utf8-from_IsUtf8}
use Rattle.vc_value.specs.Names.{begins_name}
use Rattle.vc_value.specs.Decimals.{read_number}
use Rattle.vc_value.specs.declared.decimal.Dec.{Dec}
use Rattle.vc_value.specs.declared.decimal.NumFault.{NumFault}
use Rattle.vc_syntax_tokens.specs.declared.fault.SyntaxFault.{SyntaxFault}
use Rattle.vc_syntax_tokens.specs.declared.fault.SyntaxKind.{SyntaxKind}
use Rattle.vc_syntax_tokens.specs.declared.fault.SyntaxKind.TheVariants as faults
use Rattle.vc_syntax_tokens.specs.declared.lexing.Lexed.{Lexed}
use Rattle.vc_syntax_tokens.specs.declared.lexing.Place.{Place}
use Rattle.vc_syntax_tokens.specs.declared.lexing.Place.TheVariants.{Inside, LineStart}
use Rattle.vc_syntax_tokens.specs.declared.token.Dollar.{Dollar}
use Rattle.vc_syntax_tokens.specs.declared.token.Lexeme.{Lexeme}
use Rattle.vc_syntax_tokens.specs.declared.token.Lexeme.TheVariants as lexemes
use Rattle.vc_syntax_tokens.specs.declared.token.Reserved.{Reserved}
use Rattle.vc_syntax_tokens.specs.declared.token.Sign.{Sign}
use Rattle.vc_syntax_tokens.specs.declared.token.Token.{Token}
use Rattle.vc_syntax_tokens.specs.Lexemes.{lexed, named, lexeme_of_word, name_at, name_length, word_at, number_lexed}
use Rattle.vc_syntax_tokens.specs.Lexemes.{number_at, number_length}
use Rattle.vc_syntax_tokens.specs.Lexemes.{text_before_quote, closing_length, text_lexed, text_at, dollar_lexed}
use Rattle.vc_syntax_tokens.specs.Lexemes.{dollar_at, variable_at}
use Rattle.vc_syntax_tokens.specs.Lexemes.{begins_with_name, short_sign, long_sign, short_sign_lexed, long_sign_lexed}
use Rattle.vc_syntax_tokens.specs.Lexemes.{sign_at, marked_at, lexeme_at}
use Rattle.vc_syntax_tokens.specs.Lexemes as tokens
use Rattle.vc_syntax_tokens.specs.Spellings.{reserved_of, dollar_of}
use Rattle.vc_syntax_tokens.specs.Tokens.{is_gap, place_after, token_of, token_at, before, rest_length, tokens_from}
use Rattle.vc_syntax_tokens.specs.Tokens.{tokens_of}
use Rattle.vc_plan.specs.Spelling.{begins_character, is_text}
use Rattle.vc_model_laws.proofs.TextsLaws.{counted, some_byte}
use Rattle.vc_model_laws.proofs.Utf8Lemmas.{cut_front, cut_back, Quoted}
use Rattle.vc_tree_laws.specs.Literals.{is_literal}

-- whether a lexeme is no text, or a good one
abbrev pub is_good : Lexeme → Bool
is_good (lexemes.Text text) = is_literal text
is_good lexeme = true

abbrev pub AllGood : List Token → Type 0
AllGood ts = list_all (λ t. is_good t.lexeme) ts ≡ true

-- and no more tokens than a dependency may have
abbrev pub Good : List Token → Type 0
Good ts = AllGood ts × (length ts ≤ 4000)

abbrev Ahead : Bool → List ℕ → List ℕ → Type 0
Ahead false front bytes = IsUtf8 (front ++ bytes)
Ahead true front bytes = IsUtf8 (front ++ 39 ∷ bytes)

quote_ascii : 39 < 128
quote_ascii = omega arith

put_quote : (front : List ℕ) (o : Option (List ℕ)) → Quoted (front ++ 39 ∷ []) o
    → Quoted front (option_map (λ text. 39 ∷ text) o)
put_quote front None q = tt
put_quote front (Some text) q = subst IsUtf8 (append_assoc front (39 ∷ []) text) q

put_byte : (front : List ℕ) (byte : ℕ) (quoted : Bool) (o : Option (List ℕ))
    → Quoted (if quoted then front else front ++ byte ∷ []) o
    → Quoted front (option_map (λ text. if quoted then text else byte ∷ text) o)
put_byte front byte quoted None q = tt
put_byte front byte true (Some text) q = q
put_byte front byte false (Some text) q = subst IsUtf8 (append_assoc front (byte ∷ []) text) q

before_quote : (after : Bool) (front bytes : List ℕ) → Ahead after front bytes
    → Quoted front (text_before_quote after bytes)
before_quote false front [] h = tt
before_quote true front [] h = subst IsUtf8 (sym (append-nil front)) (cut_front front [] 39 quote_ascii h)
before_quote false front (byte ∷ bytes) h =
    by (byte == 39) refl (λ u. before_quote true front bytes u) (λ u. before_quote false (front ++ byte ∷ []) bytes u)
  where
    by : (b : Bool) → (byte == 39) ≡ b → (Ahead true front bytes → Quoted front (text_before_quote true bytes))
        → (Ahead false (front ++ byte ∷ []) bytes → Quoted (front ++ byte ∷ []) (text_before_quote false bytes))
        → Quoted front (option_map (λ text. if b then text else byte ∷ text) (text_before_quote b bytes))
    by true is closing on =
        let e : byte ≡ 39 = eqb-true byte 39 is in
        put_byte front byte true (text_before_quote true bytes)
        (closing (subst (λ (x : ℕ). IsUtf8 (front ++ x ∷ bytes)) e h))
    by false is closing on =
        put_byte front byte false (text_before_quote false bytes)
        (on (subst IsUtf8 (sym (append_assoc front (byte ∷ []) bytes)) h))
before_quote true front (byte ∷ bytes) h = by (byte == 39) refl (λ u. before_quote false (front ++ 39 ∷ []) bytes u)
  where
    by : (b : Bool) → (byte == 39) ≡ b
        → (IsUtf8 ((front ++ 39 ∷ []) ++ bytes) → Quoted (front ++ 39 ∷ []) (text_before_quote false bytes))
        → Quoted front (if b then option_map (λ text. 39 ∷ text) (text_before_quote false bytes) else Some [])
    by true is on =
        let e : byte ≡ 39 = eqb-true byte 39 is in
        let two : IsUtf8 ((front ++ 39 ∷ []) ++ 39 ∷ bytes) =
        subst IsUtf8 (sym (append_assoc front (39 ∷ []) (39 ∷ bytes)))
        (subst (λ (x : ℕ). IsUtf8 (front ++ 39 ∷ x ∷ bytes)) e h) in
        put_quote front (text_before_quote false bytes)
        (on (IsUtf8-append (front ++ 39 ∷ []) bytes (cut_front (front ++ 39 ∷ []) bytes 39 quote_ascii two)
        (cut_back (front ++ 39 ∷ []) bytes 39 quote_ascii two)))
    by false is on = subst IsUtf8 (sym (append-nil front)) (cut_front front (byte ∷ bytes) 39 quote_ascii h)

-- a text of 1 to 30 characters is one of the plan
text_is : (text : List ℕ) → tokens.is_text text ≡ true → is_text text ≡ true
text_is text h =
    let parts = and_parts (nat_le 1 (tokens.character_count text)) (nat_le (tokens.character_count text) 30) h in
    let some = leb-true 1 (tokens.character_count text) parts.0 in
    let few = leb-true (tokens.character_count text) 30 parts.1 in
    and_from (nat_lt 0 (length text)) (nat_le (length (filter begins_character text)) 30)
    (lt-ltb 0 (length text) (some_byte text (omega (arith, counted text, some))))
    (le-leb (length (filter begins_character text)) 30 (omega (arith, counted text, few)))

-- what is lexed at the front
abbrev Lexes : Result Lexed SyntaxKind → Type 0
Lexes (Ok found) = is_good found.lexeme ≡ true
Lexes (Err fault) = Unit {0}

text_lexes : (o : Option (List ℕ)) (count : ℕ) → Quoted [] o → Lexes (text_lexed o count)
text_lexes None count q = tt
text_lexes (Some text) count q = by (tokens.is_text text) refl
  where
    by : (b : Bool) → tokens.is_text text ≡ b
        → Lexes (if b then lexed (lexemes.Text text) (1 + count) else Err faults.TextTooLong)
    by true is = and_from (is_text text) (is_utf8 text) (text_is text is) (is_utf8-from_IsUtf8 text q)
    by false is = tt

word_good : (word : List ℕ) (o : Option Reserved) → is_good (named word o) ≡ true
word_good word None = refl
word_good word (Some reserved) = refl

name_lexes : (bytes : List ℕ) → Lexes (name_at bytes)
name_lexes bytes = by (nat_le (name_length bytes) 30)
  where
    by : (b : Bool) → Lexes (if b then lexed (lexeme_of_word (word_at bytes)) (name_length bytes) else Err
        faults.NameTooLong)
    by true = word_good (word_at bytes) (reserved_of (word_at bytes))
    by false = tt

number_lexes : (r : Result Dec NumFault) (count : ℕ) → Lexes (number_lexed r count)
number_lexes (Ok number) count = refl
number_lexes (Err fault) count = tt

dollar_lexes : (o : Option Dollar) (count : ℕ) → Lexes (dollar_lexed o count)
dollar_lexes None count = tt
dollar_lexes (Some dollar) count = refl

variable_lexes : (bytes : List ℕ) → Lexes (variable_at bytes)
variable_lexes bytes = by (begins_with_name bytes) (nat_le (name_length bytes) 30)
  where
    by : (b c : Bool)
        → Lexes (if b then (if c then lexed (lexemes.Variable (word_at bytes)) (1 + name_length bytes) else Err
        faults.NameTooLong) else Err faults.UnknownWord)
    by true true = refl
    by true false = tt
    by false c = tt

short_lexes : (o : Option Sign) → Lexes (short_sign_lexed o)
short_lexes None = tt
short_lexes (Some sign) = refl

long_lexes : (o : Option Sign) (shorter : Result Lexed SyntaxKind) → Lexes shorter → Lexes (long_sign_lexed o shorter)
long_lexes None shorter h = h
long_lexes (Some sign) shorter h = refl

marked_lexes : (front : List ℕ) (byte : ℕ) (bytes : List ℕ) → IsUtf8 (front ++ byte ∷ bytes)
    → Lexes (marked_at byte bytes)
marked_lexes front byte bytes h = by (byte == 39) refl (byte == 36) (byte == 63)
  where
    by : (quote : Bool) → (byte == 39) ≡ quote → (dollar variable : Bool)
        → Lexes (if quote then text_at bytes else if dollar then dollar_at bytes else if variable then variable_at
        bytes else sign_at byte bytes)
    by true is dollar variable =
        let ascii : byte < 128 = let e = eqb-true byte 39 is in omega (arith, e) in
        text_lexes (text_before_quote false bytes) (closing_length false bytes)
        (before_quote false [] bytes (cut_back front bytes byte ascii h))
    by false is true variable = dollar_lexes (dollar_of (word_at bytes)) (name_length bytes)
    by false is false true = variable_lexes bytes
    by false is false false = long_lexes (long_sign byte bytes) (short_sign_lexed (short_sign byte bytes))
        (short_lexes (short_sign byte bytes))

front_lexes : (front : List ℕ) (byte : ℕ) (bytes : List ℕ) → IsUtf8 (front ++ byte ∷ bytes)
    → Lexes (lexeme_at (byte ∷ bytes))
front_lexes front byte bytes h = by (begins_name byte) (is_ascii_digit byte)
  where
    by : (name digit : Bool) → Lexes (if name then name_at (byte ∷ bytes) else if digit then number_at (byte ∷ bytes)
        else marked_at byte bytes)
    by true digit = name_lexes (byte ∷ bytes)
    by false true = number_lexes (read_number (take (number_length (byte ∷ bytes)) (byte ∷ bytes)))
        (number_length (byte ∷ bytes))
    by false false = marked_lexes front byte bytes h

-- the tokens of a text
abbrev IsGoodToken : Result Token SyntaxFault → Type 0
IsGoodToken (Ok token) = is_good token.lexeme ≡ true
IsGoodToken (Err fault) = Unit {0}

abbrev pub AreGood : Result (List Token) SyntaxFault → Type 0
AreGood (Ok ts) = AllGood ts
AreGood (Err fault) = Unit {0}

token_good : (start : ℕ) (r : Result Lexed SyntaxKind) → Lexes r → IsGoodToken (token_of start r)
token_good start (Ok found) h = h
token_good start (Err fault) h = tt

before_good : (token : Result Token SyntaxFault) (rest : Result (List Token) SyntaxFault) → IsGoodToken token
    → AreGood rest → AreGood (before token rest)
before_good (Err fault) rest h g = tt
before_good (Ok token) (Err fault) h g = tt
before_good (Ok token) (Ok ts) h g = and_from (is_good token.lexeme) (list_all (λ t. is_good t.lexeme) ts) h g

tokens_good : (place : Place) (start skipped : ℕ) (front bytes : List ℕ) → IsUtf8 (front ++ bytes)
    → AreGood (tokens_from place start skipped bytes)
tokens_good place start skipped front [] h = refl
tokens_good place start (suc skipped) front (byte ∷ bytes) h =
    tokens_good place (start + 1) skipped (front ++ byte ∷ []) bytes
    (subst IsUtf8 (sym (append_assoc front (byte ∷ []) bytes)) h)
tokens_good place start zero front (byte ∷ bytes) h =
    by (is_gap place byte) (tokens_good (place_after place byte) (start + 1) 0 (front ++ byte ∷ []) bytes more)
    (before_good (token_at start (byte ∷ bytes))
    (tokens_from Inside (start + 1) (rest_length start (token_at start (byte ∷ bytes))) bytes)
    (token_good start (lexeme_at (byte ∷ bytes)) (front_lexes front byte bytes h))
    (tokens_good Inside (start + 1) (rest_length start (token_at start (byte ∷ bytes))) (front ++ byte ∷ []) bytes
    more))
  where
    more : IsUtf8 ((front ++ byte ∷ []) ++ bytes)
    more = subst IsUtf8 (sym (append_assoc front (byte ∷ []) bytes)) h

    by : (gap : Bool) → AreGood (tokens_from (place_after place byte) (start + 1) 0 bytes)
        → AreGood (before (token_at start (byte ∷ bytes))
        (tokens_from Inside (start + 1) (rest_length start (token_at start (byte ∷ bytes))) bytes))
        → AreGood (elim gap [
          | true ↦ tokens_from (place_after place byte) (start + 1) 0 bytes
          | false ↦ before (token_at start (byte ∷ bytes))
              (tokens_from Inside (start + 1) (rest_length start (token_at start (byte ∷ bytes))) bytes)
        ])
    by true skipped here = skipped
    by false skipped here = here

pub text_tokens : (text : List ℕ) → IsUtf8 text → AreGood (tokens_of text)
text_tokens text h = tokens_good LineStart 0 0 [] text h
