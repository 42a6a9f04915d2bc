-- Tokens made simpler: parentheses left out, and lexemes in the place of others of their sort.
use Rattle.std.specs.Prelude.{◌≡◌, ℕ, Bool, true, false, List, [], ◌∷◌, ◌++◌}
use Rattle.vc_syntax_tokens.specs.declared.token.Token.{Token}
use Rattle.vc_syntax_tokens.specs.declared.token.Lexeme.{Lexeme}
use Rattle.vc_syntax_tokens.specs.declared.token.Lexeme.TheVariants as lexemes
use Rattle.vc_syntax_tokens.specs.declared.token.Sign.TheVariants.{OpenParen, CloseParen, Dot, Period, Colon}
use Rattle.vc_syntax_tokens.specs.declared.token.Reserved.{Reserved}
use Rattle.vc_syntax_tokens.specs.declared.token.Reserved.TheVariants as words
use Rattle.vc_syntax_tokens.specs.declared.limits.Prefix.{Prefix}
use Rattle.vc_syntax_tokens.specs.Limits.{is_open, is_close, is_prefix}
use Rattle.vc_syntax_tokens.specs.Texts.{is_dot, is_period}
use Rattle.vc_syntax_tokens.specs.Written.{is_lexeme, is_star}
use Rattle.vc_syntax_terms.specs.TermGrammar.{IsSign, IsWord}

-- a lexeme counts as another does, and may stand where any may
pub record Same (l m : Lexeme) : Type 0 where
  pub opens : is_open l ≡ is_open m
  pub closes : is_close l ≡ is_close m
  pub prefixes : (p : Prefix) → is_prefix p l ≡ is_prefix p m
  pub good : is_lexeme m ≡ true
  pub no_dot : is_dot m ≡ false
  pub no_period : is_period m ≡ false

abbrev pub Alike : Lexeme → Lexeme → Type 0
Alike l m = is_lexeme l ≡ true → Same l m

-- no row of prefixes goes on behind the lexeme
pub record Ends (m : Lexeme) : Type 0 where
  pub no_opening : is_open m ≡ false
  pub no_prefix : (p : Prefix) → is_prefix p m ≡ false

abbrev pub EndsIf : Bool → Lexeme → Type 0
EndsIf true m = Ends m
EndsIf false m = Unit {0}

-- tokens, and simpler lexemes that say the same; whether no row of prefixes goes on behind both
pub data Simpler : Bool → List Token → List Lexeme → Type 0 where
  token : {t : Token} {m : Lexeme} (ends : Bool) → Alike t.lexeme m → EndsIf ends m → is_star m ≡ false
      → Simpler ends (t ∷ []) (m ∷ [])
  before : {ends : Bool} (t : Token) (m : Lexeme) (ts : List Token) (ms : List Lexeme) → Alike t.lexeme m
      → is_star m ≡ false → Simpler ends ts ms
      → Simpler ends (t ∷ ts) (m ∷ ms)
  dotted : (t dot u : Token) (m : Lexeme) (name : List ℕ) → Alike t.lexeme m → is_star m ≡ false → IsSign Dot dot
      → u.lexeme ≡ lexemes.Name name
      → Simpler true (t ∷ dot ∷ u ∷ []) (m ∷ lexemes.Sign Dot ∷ lexemes.Name name ∷ [])
  joined : {first ends : Bool} (ts us : List Token) (ms ns : List Lexeme) → Simpler first ts ms → Simpler ends us ns
      → Simpler ends (ts ++ us) (ms ++ ns)
  operated : {first ends : Bool} (ts : List Token) (t : Token) (us : List Token) (ms : List Lexeme) (m : Lexeme)
      (ns : List Lexeme)
      → Simpler first ts ms → Alike t.lexeme m → Simpler ends us ns → Simpler ends (ts ++ t ∷ us) (ms ++ m ∷ ns)
  unwrapped : (opening : Token) (ts : List Token) (closing : Token) (ms : List Lexeme) → IsSign OpenParen opening
      → Simpler true ts ms → IsSign CloseParen closing
      → Simpler true (opening ∷ (ts ++ closing ∷ [])) ms
  turned : (ts : List Token) (t : Token) (ms : List Lexeme) → Simpler true ts ms → IsWord words.Specified t
      → Simpler true (ts ++ t ∷ []) (lexemes.Reserved words.Specified ∷ ms)

-- the same of sections
pub data Sections : List Token → List Lexeme → Type 0 where
  none : Sections [] []
  section : {ends : Bool} (t colon : Token) (ts : List Token) (period : Token) (us : List Token) (word : Reserved)
      (ms ns : List Lexeme)
      → Alike t.lexeme (lexemes.Reserved word) → IsSign Colon colon → Simpler ends ts ms → IsSign Period period
      → Sections us ns
      → Sections (t ∷ colon ∷ (ts ++ period ∷ us))
      (lexemes.Reserved word ∷ lexemes.Sign Colon ∷ (ms ++ lexemes.Sign Period ∷ ns))
