-- What the readers of single tokens read.
use denote.Enum.Bare.{same_true, true_same}
use Rattle.std.proofs.Common.{◌≡◌, List, [], ◌∷◌, Bool, true, false, cond, Some, None, option_map, refl, ap, ◌∙◌}
use Rattle.vc_syntax_tokens.specs.contracts.token.Sign.{the_type as sign_type}
use Rattle.vc_syntax_tokens.specs.contracts.token.Reserved.{the_type as word_type}
use Rattle.vc_syntax_tokens.specs.declared.token.Token.{Token}
use Rattle.vc_syntax_tokens.specs.declared.token.Lexeme.{Lexeme}
use Rattle.vc_syntax_tokens.specs.declared.token.Lexeme.TheVariants as lexemes
use Rattle.vc_syntax_tokens.specs.declared.token.Sign.{Sign}
use Rattle.vc_syntax_tokens.specs.declared.token.Reserved.{Reserved}
use Rattle.vc_syntax_tokens.specs.declared.token.Dollar.TheVariants.{Itself}
use Rattle.vc_syntax_tree.specs.declared.NameLeaf.{NameLeaf}
use Rattle.vc_syntax_terms.specs.Leaves.{is_sign, is_word, is_self, after_sign, after_word, after_self, named}
use Rattle.vc_syntax_terms.specs.Leaves.{any_named, name_of, any_name_of}
use Rattle.vc_syntax_terms.specs.TermGrammar.{IsSign, IsWord, IsDollar, IsName, IsAnyName}
use Rattle.vc_syntax_terms.proofs.Chains.{Reads, map_some}

pub cond_some : {A : Type 0} (b : Bool) (x y : A) → cond b (Some x) None ≡ Some y → (b ≡ true) × (x ≡ y)
cond_some true x y e = (refl, cc)
cond_some false x y e = absurd (cc)

is_sign_is : (sign : Sign) (l : Lexeme) → is_sign sign l ≡ true → l ≡ lexemes.Sign sign
is_sign_is sign (lexemes.Sign found) e = ap lexemes.Sign (same_true sign_type tt found sign e)
is_sign_is sign _ e = absurd (cc)

is_word_is : (word : Reserved) (l : Lexeme) → is_word word l ≡ true → l ≡ lexemes.Reserved word
is_word_is word (lexemes.Reserved found) e = ap lexemes.Reserved (same_true word_type tt found word e)
is_word_is word _ e = absurd (cc)

is_self_is : (l : Lexeme) → is_self l ≡ true → l ≡ lexemes.Dollar Itself
is_self_is (lexemes.Dollar Itself) e = refl
is_self_is _ e = absurd (cc)

pub after_sign_is : (sign : Sign) (ts rest : List Token) → after_sign sign ts ≡ Some rest
    → (t : Token) × (ts ≡ t ∷ rest) × IsSign sign t
after_sign_is sign [] rest e = absurd (cc)
after_sign_is sign (t ∷ ts) rest e = let p : (is_sign sign t.lexeme ≡ true) × (ts ≡ rest) = cond_some _ ts rest e in
    (t, ap (λ x. t ∷ x) p.1, is_sign_is sign t.lexeme p.0)

pub after_word_is : (word : Reserved) (ts rest : List Token) → after_word word ts ≡ Some rest
    → (t : Token) × (ts ≡ t ∷ rest) × IsWord word t
after_word_is word [] rest e = absurd (cc)
after_word_is word (t ∷ ts) rest e = let p : (is_word word t.lexeme ≡ true) × (ts ≡ rest) = cond_some _ ts rest e in
    (t, ap (λ x. t ∷ x) p.1, is_word_is word t.lexeme p.0)

pub after_self_is : (ts rest : List Token) → after_self ts ≡ Some rest
    → (t : Token) × (ts ≡ t ∷ rest) × IsDollar Itself t
after_self_is [] rest e = absurd (cc)
after_self_is (t ∷ ts) rest e = let p : (is_self t.lexeme ≡ true) × (ts ≡ rest) = cond_some _ ts rest e in
    (t, ap (λ x. t ∷ x) p.1, is_self_is t.lexeme p.0)

pub named_is : Reads named IsName
named_is [] found e = absurd (cc)
named_is (t ∷ ts) found e = let p : (name : NameLeaf) × (name_of t ≡ Some name)
    × ((name, ts) ≡ found) = map_some (name_of t) _ found e in
    (t, ap (λ x. t ∷ x.1) p.2, p.1 ∙ ap (λ x. Some x.0) p.2)

pub any_named_is : Reads any_named IsAnyName
any_named_is [] found e = absurd (cc)
any_named_is (t ∷ ts) found e = let p : (name : NameLeaf) × (any_name_of t ≡ Some name)
    × ((name, ts) ≡ found) = map_some (any_name_of t) _ found e in
    (t, ap (λ x. t ∷ x.1) p.2, p.1 ∙ ap (λ x. Some x.0) p.2)

pub any_named_again : (t : Token) (ts : List Token) (name : NameLeaf) → IsAnyName t name
    → any_named (t ∷ ts) ≡ Some (name, ts)
any_named_again t ts name e = ap (λ o. option_map (λ x. (x, ts)) o) e

-- the other way round
pub after_sign_again : (sign : Sign) (t : Token) (ts : List Token) → IsSign sign t → after_sign sign (t ∷ ts) ≡ Some ts
after_sign_again sign t ts e = ap (λ l. cond (is_sign sign l) (Some ts) None) e
    ∙ ap (λ b. cond b (Some ts) None) (true_same sign_type sign sign refl)

pub after_word_again : (word : Reserved) (t : Token) (ts : List Token) → IsWord word t
    → after_word word (t ∷ ts) ≡ Some ts
after_word_again word t ts e = ap (λ l. cond (is_word word l) (Some ts) None) e
    ∙ ap (λ b. cond b (Some ts) None) (true_same word_type word word refl)

pub after_self_again : (t : Token) (ts : List Token) → IsDollar Itself t → after_self (t ∷ ts) ≡ Some ts
after_self_again t ts e = ap (λ l. cond (is_self l) (Some ts) None) e

pub named_again : (t : Token) (ts : List Token) (name : NameLeaf) → IsName t name → named (t ∷ ts) ≡ Some (name, ts)
named_again t ts name e = ap (λ o. option_map (λ x. (x, ts)) o) e
