-- Tokens with given lexemes, cut where these are put together; and what such tokens spell.
use Rattle.std.proofs.Common.{◌≡◌, List, [], ◌∷◌, ◌++◌, map, refl, ap, ◌∙◌}
use Rattle.std.proofs.lemmas.List.{append-nil}
use Rattle.vc_syntax_tokens.specs.declared.token.Token.{Token}
use Rattle.vc_syntax_tokens.specs.declared.token.Lexeme.{Lexeme}
use Rattle.vc_syntax_tokens.specs.declared.token.Lexeme.TheVariants as lexemes
use Rattle.vc_syntax_tokens.specs.declared.token.Sign.{Sign}
use Rattle.vc_syntax_tree.specs.declared.NameLeaf.{NameLeaf}
use Rattle.vc_syntax_tree.specs.declared.TextLeaf.{TextLeaf}
use Rattle.vc_syntax_tree.specs.declared.NumberLeaf.{NumberLeaf}
use Rattle.vc_syntax_terms.specs.Leaves.{name_in, variable_in, text_in, number_in}
use Rattle.vc_syntax_terms.specs.TermGrammar.{IsName, IsVariable, IsText, IsNumber}
use Rattle.vc_syntax_terms.specs.ConditionGrammar as grammar
use Rattle.vc_syntax_terms.specs.ConditionGrammar.{IsListed}
use Rattle.vc_syntax_print.specs.ConditionLexemes.{separated}
use Rattle.vc_syntax_print.proofs.ListsSimpler.{listed_one, separated_snoc}

-- the lexemes of tokens
abbrev pub seen : List Token → List Lexeme
seen ts = map (λ t. t.lexeme) ts

-- the tokens spell a tree that is the same but for places
pub record Spelt {A : Type 0} (IsA : List Token → A → Type 0) (bare : A → A) (ts : List Token) (x : A) : Type 0 where
  pub tree : A
  pub spelled : IsA ts tree
  pub same : bare tree ≡ bare x

-- each tokens with these lexemes do
abbrev pub Again : {A : Type 0} → (List Token → A → Type 0) → (A → A) → List Lexeme → A → Type 0
Again IsA bare ls x = (ts : List Token) → seen ts ≡ ls → Spelt IsA bare ts x

pub front : (G : List Token → Type 0) (l : Lexeme) (ls : List Lexeme) (ts : List Token) → seen ts ≡ l ∷ ls
    → ((t : Token) (us : List Token) → t.lexeme ≡ l → seen us ≡ ls → G (t ∷ us)) → G ts
front G l ls [] e k = absurd (cc)
front G l ls (t ∷ us) e k = k t us (cc) (cc)

pub nothing : (G : List Token → Type 0) (ts : List Token) → seen ts ≡ [] → G [] → G ts
nothing G [] e k = k
nothing G (t ∷ ts) e k = absurd (cc)

pub single : (G : List Token → Type 0) (l : Lexeme) (ts : List Token) → seen ts ≡ l ∷ []
    → ((t : Token) → t.lexeme ≡ l → G (t ∷ [])) → G ts
single G l ts e k = front G l [] ts e (λ t us p q. nothing (λ z. G (t ∷ z)) us q (k t p))

pub split : (G : List Token → Type 0) (ls ms : List Lexeme) (ts : List Token) → seen ts ≡ ls ++ ms
    → ((us vs : List Token) → seen us ≡ ls → seen vs ≡ ms → G (us ++ vs)) → G ts
split G [] ms ts e k = k [] ts refl e
split G (l ∷ ls) ms ts e k = front G l (ls ++ ms) ts e (λ t us p q. split (λ z. G (t ∷ z)) ls ms us q (λ vs ws r s.
    k (t ∷ vs) ws (ap (λ z. z ∷ seen vs) p ∙ ap (λ z. l ∷ z) r) s))

-- two parts with a lexeme between them
pub between : (G : List Token → Type 0) (ls : List Lexeme) (l : Lexeme) (ms : List Lexeme) (ts : List Token)
    → seen ts ≡ ls ++ l ∷ ms
    → ((us : List Token) (t : Token) (vs : List Token) → seen us ≡ ls → t.lexeme ≡ l → seen vs ≡ ms → G (us ++ t ∷ vs))
    → G ts
between G ls l ms ts e k =
    split G ls (l ∷ ms) ts e (λ us vs p q. front (λ z. G (us ++ z)) l ms vs q (λ t ws r s. k us t ws p r s))

-- a part with a lexeme behind it
pub ended : (G : List Token → Type 0) (ls : List Lexeme) (l : Lexeme) (ts : List Token) → seen ts ≡ ls ++ l ∷ []
    → ((us : List Token) (t : Token) → seen us ≡ ls → t.lexeme ≡ l → G (us ++ t ∷ [])) → G ts
ended G ls l ts e k = split G ls (l ∷ []) ts e (λ us vs p q. single (λ z. G (us ++ z)) l vs q (λ t r. k us t p r))

-- leaves at their tokens' places
abbrev pub name_at : Token → NameLeaf → NameLeaf
name_at t leaf = record { name = leaf.name; start = t.start; end = t.end }

abbrev pub text_at : Token → TextLeaf → TextLeaf
text_at t leaf = record { text = leaf.text; start = t.start; end = t.end }

abbrev pub number_at : Token → NumberLeaf → NumberLeaf
number_at t leaf = record { number = leaf.number; start = t.start; end = t.end }

pub name_again : (t : Token) (leaf : NameLeaf) → t.lexeme ≡ lexemes.Name leaf.name → IsName t (name_at t leaf)
name_again t leaf e = ap (λ l. name_in l t.start t.end) e

pub variable_again : (t : Token) (leaf : NameLeaf) → t.lexeme ≡ lexemes.Variable leaf.name
    → IsVariable t (name_at t leaf)
variable_again t leaf e = ap (λ l. variable_in l t.start t.end) e

pub text_again : (t : Token) (leaf : TextLeaf) → t.lexeme ≡ lexemes.Text leaf.text → IsText t (text_at t leaf)
text_again t leaf e = ap (λ l. text_in l t.start t.end) e

pub number_again : (t : Token) (leaf : NumberLeaf) → t.lexeme ≡ lexemes.Number leaf.number
    → IsNumber t (number_at t leaf)
number_again t leaf e = ap (λ l. number_in l t.start t.end) e

map_snoc : {A : Type 0} (f : A → A) (xs ys : List A) (x y : A) → map f xs ≡ map f ys → f x ≡ f y
    → map f (xs ++ x ∷ []) ≡ map f (ys ++ y ∷ [])
map_snoc f [] [] x y e h = ap (λ z. z ∷ []) h
map_snoc f [] (y' ∷ ys) x y e h = absurd (cc)
map_snoc f (x' ∷ xs) [] x y e h = absurd (cc)
map_snoc f (x' ∷ xs) (y' ∷ ys) x y e h =
    let p : f x' ≡ f y' = cc in
    let q : map f xs ≡ map f ys = cc in
    ap (λ z. z ∷ map f (xs ++ x ∷ [])) p ∙ ap (λ z. f y' ∷ z) (map_snoc f xs ys x y q h)

listed_more : {A : Type 0} (separator : Sign) (IsA : List Token → A → Type 0) (bare : A → A) (us vs : List Token)
    (t : Token) (xs : List A) (x : A)
    → Spelt (IsListed separator IsA) (map bare) us xs → t.lexeme ≡ lexemes.Sign separator → Spelt IsA bare vs x
    → Spelt (IsListed separator IsA) (map bare) (us ++ t ∷ vs) (xs ++ x ∷ [])
listed_more separator IsA bare us vs t xs x left s right = record {
  tree = left.tree ++ right.tree ∷ [];
  spelled = grammar.more us t vs left.tree right.tree left.spelled s right.spelled;
  same = map_snoc bare left.tree xs right.tree x left.same right.same;
}

pub listed_again : {A : Type 0} (separator : Sign) (IsA : List Token → A → Type 0) (bare : A → A)
    (lexemes_of : A → List Lexeme)
    → ((ts : List Token) (x : A) → IsA ts x → Again IsA bare (lexemes_of x) x)
    → (ts : List Token) (xs : List A) → IsListed separator IsA ts xs
    → Again (IsListed separator IsA) (map bare) (separated separator lexemes_of xs) xs
listed_again separator IsA bare lexemes_of each _ _ (grammar.one {ts = ts} {x = x} a) vs e =
    let s : Spelt IsA bare vs x = each ts x a vs (e ∙ append-nil (lexemes_of x)) in
    record { tree = s.tree ∷ []; spelled = grammar.one s.spelled; same = ap (λ z. z ∷ []) s.same }
listed_again separator IsA bare lexemes_of each _ _ (grammar.more ts t us xs x l s a) vs e =
    between (λ z. Spelt (IsListed separator IsA) (map bare) z (xs ++ x ∷ [])) (separated separator lexemes_of xs)
    (lexemes.Sign separator) (lexemes_of x) vs
    (e ∙ separated_snoc separator lexemes_of xs x (listed_one separator IsA ts xs l))
    (λ us' t' vs' p q r. listed_more separator IsA bare us' vs' t' xs x
    (listed_again separator IsA bare lexemes_of each ts xs l us' p) q (each us x a vs' r))
