-- Things with separators between them, made simpler.
use Rattle.std.proofs.Common.{◌≡◌, Bool, false, List, [], ◌∷◌, ◌++◌, sym, ap, subst, ◌∙◌, append_assoc}
use Rattle.std.proofs.lemmas.List.{append-nil}
use Rattle.vc_syntax_tokens.specs.declared.token.Token.{Token}
use Rattle.vc_syntax_tokens.specs.declared.token.Lexeme.{Lexeme}
use Rattle.vc_syntax_tokens.specs.declared.token.Lexeme.TheVariants as lexemes
use Rattle.vc_syntax_tokens.specs.declared.token.Sign.{Sign}
use Rattle.vc_syntax_tokens.specs.Texts.{is_dot, is_period}
use Rattle.vc_syntax_terms.specs.ConditionGrammar as grammar
use Rattle.vc_syntax_terms.specs.ConditionGrammar.{IsListed}
use Rattle.vc_syntax_print.specs.ConditionLexemes.{each_behind, separated}
use Rattle.vc_syntax_print.proofs.Simpler.{Simpler}
use Rattle.vc_syntax_print.proofs.Marks.{operated_is}

-- there is one thing or more
abbrev pub HasOne : {A : Type 0} → List A → Type 0
HasOne [] = ⊥
HasOne (x ∷ xs) = Unit {0}

snoc_one : {A : Type 0} (xs : List A) (x : A) → HasOne (xs ++ x ∷ [])
snoc_one [] x = tt
snoc_one (y ∷ xs) x = tt

pub listed_one : {A : Type 0} (separator : Sign) (IsA : List Token → A → Type 0) (ts : List Token) (xs : List A)
    → IsListed separator IsA ts xs → HasOne xs
listed_one separator IsA _ _ (grammar.one x) = tt
listed_one separator IsA _ _ (grammar.more ts t us xs x l s a) = snoc_one xs x

each_snoc : {A : Type 0} (separator : Sign) (lexemes_of : A → List Lexeme) (xs : List A) (x : A)
    → each_behind separator lexemes_of (xs ++ x ∷ [])
    ≡ each_behind separator lexemes_of xs ++ lexemes.Sign separator ∷ lexemes_of x
each_snoc separator lexemes_of [] x = ap (λ z. lexemes.Sign separator ∷ z) (append-nil (lexemes_of x))
each_snoc separator lexemes_of (y ∷ xs) x =
    ap (λ z. lexemes.Sign separator ∷ z)
    (ap (λ z. lexemes_of y ++ z) (each_snoc separator lexemes_of xs x)
    ∙ sym (append_assoc (lexemes_of y) (each_behind separator lexemes_of xs)
    (lexemes.Sign separator ∷ lexemes_of x)))

pub separated_snoc : {A : Type 0} (separator : Sign) (lexemes_of : A → List Lexeme) (xs : List A) (x : A) → HasOne xs
    → separated separator lexemes_of (xs ++ x ∷ [])
    ≡ separated separator lexemes_of xs ++ lexemes.Sign separator ∷ lexemes_of x
separated_snoc separator lexemes_of [] x h = absurd h
separated_snoc separator lexemes_of (y ∷ xs) x h =
    ap (λ z. lexemes_of y ++ z) (each_snoc separator lexemes_of xs x)
    ∙ sym (append_assoc (lexemes_of y) (each_behind separator lexemes_of xs)
    (lexemes.Sign separator ∷ lexemes_of x))

pub listed_simpler : {A : Type 0} (ends : Bool) (separator : Sign) (IsA : List Token → A → Type 0)
    (lexemes_of : A → List Lexeme)
    → is_dot (lexemes.Sign separator) ≡ false → is_period (lexemes.Sign separator) ≡ false
    → ((ts : List Token) (x : A) → IsA ts x → Simpler ends ts (lexemes_of x))
    → (ts : List Token) (xs : List A) → IsListed separator IsA ts xs
    → Simpler ends ts (separated separator lexemes_of xs)
listed_simpler ends separator IsA lexemes_of d p each _ _ (grammar.one {ts = ts} {x = x} a) =
    subst (λ z. Simpler ends ts z) (sym (append-nil (lexemes_of x))) (each ts x a)
listed_simpler ends separator IsA lexemes_of d p each _ _ (grammar.more ts t us xs x l s a) =
    subst (λ z. Simpler ends (ts ++ t ∷ us) z)
    (sym (separated_snoc separator lexemes_of xs x (listed_one separator IsA ts xs l)))
    (operated_is ends ends ts t us (separated separator lexemes_of xs) (lexemes.Sign separator) (lexemes_of x)
    (listed_simpler ends separator IsA lexemes_of d p each ts xs l) s d p (each us x a))
