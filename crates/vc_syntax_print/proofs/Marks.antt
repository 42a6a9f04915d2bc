-- Single tokens, and what stands between parentheses, made simpler.
use Rattle.std.proofs.Common.{◌≡◌, ℕ, Bool, true, false, List, [], ◌∷◌, ◌++◌, Option, Some, None, refl, sym, ap, subst}
use Rattle.vc_syntax_tokens.specs.declared.token.Token.{Token}
use Rattle.vc_syntax_tokens.specs.declared.token.Lexeme.{Lexeme}
use Rattle.vc_syntax_tokens.specs.declared.token.Lexeme.TheVariants as lexemes
use Rattle.vc_syntax_tokens.specs.declared.token.Sign.TheVariants.{OpenParen, CloseParen}
use Rattle.vc_syntax_tokens.specs.declared.limits.Prefix.{Prefix}
use Rattle.vc_syntax_tokens.specs.declared.limits.Prefix.TheVariants.{Negation, Negative}
use Rattle.vc_syntax_tokens.specs.Limits.{is_open, is_close, is_prefix}
use Rattle.vc_syntax_tokens.specs.Texts.{is_dot, is_period}
use Rattle.vc_syntax_tokens.specs.Written.{is_lexeme, is_star}
use Rattle.vc_syntax_tree.specs.declared.NameLeaf.{NameLeaf}
use Rattle.vc_syntax_tree.specs.declared.TextLeaf.{TextLeaf}
use Rattle.vc_syntax_tree.specs.declared.NumberLeaf.{NumberLeaf}
use Rattle.vc_syntax_terms.specs.Leaves.{name_in, variable_in, text_in, number_in}
use Rattle.vc_syntax_terms.specs.TermGrammar.{IsSign, IsName, IsVariable, IsText, IsNumber}
use Rattle.vc_syntax_print.specs.TermLexemes.{wrapped, wrapped_if}
use Rattle.vc_syntax_print.proofs.Simpler as simpler
use Rattle.vc_syntax_print.proofs.Simpler.{Same, Alike, Ends, EndsIf, Simpler}

-- the token has the lexeme, which is no dot and no period
pub alike : (l m : Lexeme) → l ≡ m → is_dot m ≡ false → is_period m ≡ false → Alike l m
alike l m e d p good = record {
  opens = ap is_open e;
  closes = ap is_close e;
  prefixes = λ prefix. ap (is_prefix prefix) e;
  good = subst (λ x. is_lexeme x ≡ true) e good;
  no_dot = d;
  no_period = p;
}

no_prefix : (m : Lexeme) → is_prefix Negation m ≡ false → is_prefix Negative m ≡ false → (p : Prefix)
    → is_prefix p m ≡ false
no_prefix m e f Negation = e
no_prefix m e f Negative = f

-- a lexeme that stands for something, or ends it
pub record IsPlain (m : Lexeme) : Type 0 where
  pub no_dot : is_dot m ≡ false
  pub no_period : is_period m ≡ false
  pub no_opening : is_open m ≡ false
  pub no_not : is_prefix Negation m ≡ false
  pub no_minus : is_prefix Negative m ≡ false
  pub no_star : is_star m ≡ false

pub ends_plain : (m : Lexeme) → IsPlain m → Ends m
ends_plain m p = record { no_opening = p.no_opening; no_prefix = no_prefix m p.no_not p.no_minus }

pub token_is : (t : Token) (m : Lexeme) → t.lexeme ≡ m → IsPlain m → Simpler true (t ∷ []) (m ∷ [])
token_is t m e p = simpler.token true (alike t.lexeme m e p.no_dot p.no_period) (ends_plain m p) p.no_star

pub before_is : (ends : Bool) (t : Token) (m : Lexeme) (ts : List Token) (ms : List Lexeme) → t.lexeme ≡ m
    → is_dot m ≡ false → is_period m ≡ false → is_star m ≡ false
    → Simpler ends ts ms → Simpler ends (t ∷ ts) (m ∷ ms)
before_is ends t m ts ms e d p s x = simpler.before t m ts ms (alike t.lexeme m e d p) s x

pub operated_is : (first ends : Bool) (ts : List Token) (t : Token) (us : List Token) (ms : List Lexeme) (m : Lexeme)
    (ns : List Lexeme)
    → Simpler first ts ms → t.lexeme ≡ m → is_dot m ≡ false → is_period m ≡ false → Simpler ends us ns
    → Simpler ends (ts ++ t ∷ us) (ms ++ m ∷ ns)
operated_is first ends ts t us ms m ns x e d p y = simpler.operated ts t us ms m ns x (alike t.lexeme m e d p) y

pub plain_name : (name : List ℕ) → IsPlain (lexemes.Name name)
plain_name name = record {
  no_dot = refl;
  no_period = refl;
  no_opening = refl;
  no_not = refl;
  no_minus = refl;
  no_star =
      refl;
}

pub closing_is : (t : Token) → IsSign CloseParen t → Simpler true (t ∷ []) (lexemes.Sign CloseParen ∷ [])
closing_is t e = token_is t (lexemes.Sign CloseParen) e
    record { no_dot = refl; no_period = refl; no_opening = refl; no_not = refl; no_minus = refl; no_star = refl }

pub closed_is : (ends : Bool) (ts : List Token) (closing : Token) (ms : List Lexeme) → Simpler ends ts ms
    → IsSign CloseParen closing
    → Simpler true (ts ++ closing ∷ []) (ms ++ lexemes.Sign CloseParen ∷ [])
closed_is ends ts closing ms x c =
    simpler.joined ts (closing ∷ []) ms (lexemes.Sign CloseParen ∷ []) x (closing_is closing c)

pub wrapped_is : (ends : Bool) (opening : Token) (ts : List Token) (closing : Token) (ms : List Lexeme)
    → IsSign OpenParen opening → Simpler ends ts ms → IsSign CloseParen closing
    → Simpler true (opening ∷ (ts ++ closing ∷ [])) (wrapped ms)
wrapped_is ends opening ts closing ms o x c =
    before_is true opening (lexemes.Sign OpenParen) (ts ++ closing ∷ []) (ms ++ lexemes.Sign CloseParen ∷ []) o refl
    refl refl (closed_is ends ts closing ms x c)

-- parentheses stay or are left out
pub regrouped : (needed : Bool) (opening : Token) (ts : List Token) (closing : Token) (ms : List Lexeme)
    → IsSign OpenParen opening → Simpler true ts ms → IsSign CloseParen closing
    → Simpler true (opening ∷ (ts ++ closing ∷ [])) (wrapped_if needed ms)
regrouped true opening ts closing ms o x c = wrapped_is true opening ts closing ms o x c
regrouped false opening ts closing ms o x c = simpler.unwrapped opening ts closing ms o x c

pub bare_if : (needed : Bool) (ts : List Token) (ms : List Lexeme) → needed ≡ false → Simpler true ts ms
    → Simpler true ts (wrapped_if needed ms)
bare_if needed ts ms e x = subst (λ b. Simpler true ts (wrapped_if b ms)) (sym e) x

-- what lexeme a leaf's token has
name_or : Option NameLeaf → List ℕ
name_or None = []
name_or (Some leaf) = leaf.name

name_lexeme_in : (l : Lexeme) (start end : ℕ) (leaf : NameLeaf) → name_in l start end ≡ Some leaf
    → l ≡ lexemes.Name leaf.name
unfolding name_or
name_lexeme_in (lexemes.Name name) start end leaf e = ap (λ o. lexemes.Name (name_or o)) e
name_lexeme_in _ start end leaf e = absurd (cc)

pub name_lexeme : (t : Token) (leaf : NameLeaf) → IsName t leaf → t.lexeme ≡ lexemes.Name leaf.name
name_lexeme t leaf e = name_lexeme_in t.lexeme t.start t.end leaf e

variable_lexeme_in : (l : Lexeme) (start end : ℕ) (leaf : NameLeaf) → variable_in l start end ≡ Some leaf
    → l ≡ lexemes.Variable leaf.name
unfolding name_or
variable_lexeme_in (lexemes.Variable name) start end leaf e = ap (λ o. lexemes.Variable (name_or o)) e
variable_lexeme_in _ start end leaf e = absurd (cc)

pub variable_lexeme : (t : Token) (leaf : NameLeaf) → IsVariable t leaf → t.lexeme ≡ lexemes.Variable leaf.name
variable_lexeme t leaf e = variable_lexeme_in t.lexeme t.start t.end leaf e

text_lexeme_in : (l : Lexeme) (start end : ℕ) (leaf : TextLeaf) → text_in l start end ≡ Some leaf
    → l ≡ lexemes.Text leaf.text
text_lexeme_in (lexemes.Text text) start end leaf e = ap lexemes.Text (cc)
text_lexeme_in _ start end leaf e = absurd (cc)

pub text_lexeme : (t : Token) (leaf : TextLeaf) → IsText t leaf → t.lexeme ≡ lexemes.Text leaf.text
text_lexeme t leaf e = text_lexeme_in t.lexeme t.start t.end leaf e

number_lexeme_in : (l : Lexeme) (start end : ℕ) (leaf : NumberLeaf) → number_in l start end ≡ Some leaf
    → l ≡ lexemes.Number leaf.number
number_lexeme_in (lexemes.Number number) start end leaf e = ap lexemes.Number (cc)
number_lexeme_in _ start end leaf e = absurd (cc)

pub number_lexeme : (t : Token) (leaf : NumberLeaf) → IsNumber t leaf → t.lexeme ≡ lexemes.Number leaf.number
number_lexeme t leaf e = number_lexeme_in t.lexeme t.start t.end leaf e

pub name_is : (t : Token) (leaf : NameLeaf) → IsName t leaf → Simpler true (t ∷ []) (lexemes.Name leaf.name ∷ [])
name_is t leaf e = token_is t (lexemes.Name leaf.name) (name_lexeme t leaf e) (plain_name leaf.name)

pub variable_is : (t : Token) (leaf : NameLeaf) → IsVariable t leaf
    → Simpler true (t ∷ []) (lexemes.Variable leaf.name ∷ [])
variable_is t leaf e = token_is t (lexemes.Variable leaf.name) (variable_lexeme t leaf e)
    record { no_dot = refl; no_period = refl; no_opening = refl; no_not = refl; no_minus = refl; no_star = refl }

pub text_is : (t : Token) (leaf : TextLeaf) → IsText t leaf → Simpler true (t ∷ []) (lexemes.Text leaf.text ∷ [])
text_is t leaf e = token_is t (lexemes.Text leaf.text) (text_lexeme t leaf e)
    record { no_dot = refl; no_period = refl; no_opening = refl; no_not = refl; no_minus = refl; no_star = refl }

pub number_is : (t : Token) (leaf : NumberLeaf) → IsNumber t leaf
    → Simpler true (t ∷ []) (lexemes.Number leaf.number ∷ [])
number_is t leaf e = token_is t (lexemes.Number leaf.number) (number_lexeme t leaf e)
    record { no_dot = refl; no_period = refl; no_opening = refl; no_not = refl; no_minus = refl; no_star = refl }
