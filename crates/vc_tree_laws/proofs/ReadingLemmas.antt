-- What readers keep: what they read has a property, and the tokens after it are still good.
use Rattle.std.proofs.Common.{◌≡◌, ℕ, zero, suc, ◌+◌, ◌≤◌, Bool, true, false, List, [], ◌∷◌, ◌++◌, length, Option, Some}
use Rattle.std.proofs.Common.{None}
use Rattle.std.proofs.Common.{cond, refl, sym, ◌∙◌, length-append, arith}
use Rattle.std.specs.Prelude.{flat_map, option_map}
use Rattle.std.specs.List.{list_all}
use Rattle.std.proofs.lemmas.Bool.{and_parts, and_from}
use Rattle.std.proofs.lemmas.List.Folds.{list_all-append}
use Rattle.vc_syntax_tokens.specs.declared.token.Reserved.{Reserved}
use Rattle.vc_syntax_tokens.specs.declared.token.Sign.{Sign}
use Rattle.vc_syntax_tokens.specs.declared.token.Sign.TheVariants.{OpenParen, CloseParen}
use Rattle.vc_syntax_tokens.specs.declared.token.Token.{Token}
use Rattle.vc_syntax_terms.specs.Leaves.{is_sign, is_word, after_sign, after_word}
use Rattle.vc_syntax_terms.specs.Reading.{Reader, then, either, or_else, made, closed, grouped}
use Rattle.vc_syntax_terms.specs.Reading.{more_in, chained, chain}
use Rattle.vc_syntax_terms.specs.Reading.{sign, word, append, single, listed}
use Rattle.vc_tree_laws.specs.Literals.{is_literal}
use Rattle.vc_tree_laws.proofs.TokenLaws.{is_good, Good}

-- what was read, with the tokens after it; and tokens alone
abbrev pub Keeps : {A : Type 0} → (A → Type 0) → Option (A × List Token) → Type 0
Keeps P None = Unit {0}
Keeps P (Some found) = P found.0 × Good found.1

abbrev pub Leaves : Option (List Token) → Type 0
Leaves None = Unit {0}
Leaves (Some ts) = Good ts

abbrev pub Reads : {A : Type 0} → (A → Type 0) → Reader A → Type 0
Reads P read = (ts : List Token) → Good ts → Keeps P (read ts)

abbrev pub Anything : {A : Type 0} → A → Type 0
Anything a = Unit {0}

-- all texts of a list are texts
abbrev pub Texts : List (List ℕ) → Type 0
Texts texts = list_all is_literal texts ≡ true

pub texts_append : (xs ys : List (List ℕ)) → Texts xs → Texts ys → Texts (xs ++ ys)
texts_append xs ys h g = list_all-append is_literal xs ys
    ∙ and_from (list_all is_literal xs) (list_all is_literal ys) h g

pub more_texts : {A : Type 0} (f : A → List (List ℕ)) (xs ys : List A) → Texts (flat_map f xs) → Texts (flat_map f ys)
    → Texts (flat_map f (xs ++ ys))
more_texts f [] ys h g = g
more_texts f (x ∷ xs) ys h g =
    let parts = and_parts (list_all is_literal (f x)) (list_all is_literal (flat_map f xs))
    (sym (list_all-append is_literal (f x) (flat_map f xs)) ∙ h) in
    texts_append (f x) (flat_map f (xs ++ ys)) parts.0 (more_texts f xs ys parts.1 g)

pub one_text : {A : Type 0} (f : A → List (List ℕ)) (x : A) → Texts (f x) → Texts (flat_map f (x ∷ []))
one_text f x h = texts_append (f x) [] h refl

-- steps
pub then_keeps : {A B : Type 0} (P : A → Type 0) (Q : B → Type 0) (o : Option (A × List Token))
    (next : A × List Token → Option (B × List Token))
    → Keeps P o → ((found : A × List Token) → P found.0 → Good found.1 → Keeps Q (next found)) → Keeps Q (then o next)
then_keeps P Q None next k h = tt
then_keeps P Q (Some found) next k h = h found k.0 k.1

pub then_rest : {B : Type 0} (Q : B → Type 0) (o : Option (List Token)) (next : List Token → Option (B × List Token))
    → Leaves o → ((ts : List Token) → Good ts → Keeps Q (next ts)) → Keeps Q (then o next)
then_rest Q None next k h = tt
then_rest Q (Some ts) next k h = h ts k

pub then_leaves : (o : Option (List Token)) (next : List Token → Option (List Token)) → Leaves o
    → ((ts : List Token) → Good ts → Leaves (next ts))
    → Leaves (then o next)
then_leaves None next k h = tt
then_leaves (Some ts) next k h = h ts k

pub then_any : {X B : Type 0} (Q : B → Type 0) (o : Option X) (next : X → Option (B × List Token))
    → ((x : X) → Keeps Q (next x)) → Keeps Q (then o next)
then_any Q None next h = tt
then_any Q (Some x) next h = h x

pub either_rest : {B : Type 0} (Q : B → Type 0) (o : Option (List Token)) (without : Option (B × List Token))
    (next : List Token → Option (B × List Token))
    → Leaves o → Keeps Q without → ((ts : List Token) → Good ts → Keeps Q (next ts)) → Keeps Q (either o without next)
either_rest Q None without next k w h = w
either_rest Q (Some ts) without next k w h = h ts k

pub made_keeps : {A B : Type 0} (P : A → Type 0) (Q : B → Type 0) (make : A → B) (o : Option (A × List Token))
    → Keeps P o
    → ((a : A) → P a → Q (make a)) → Keeps Q (made make o)
made_keeps P Q make None k h = tt
made_keeps P Q make (Some found) k h = (h found.0 k.0, k.1)

pub or_keeps : {A : Type 0} (P : A → Type 0) (o other : Option (A × List Token)) → Keeps P o → Keeps P other
    → Keeps P (or_else o other)
or_keeps P None other k h = h
or_keeps P (Some found) other k h = k

pub put_keeps : {A : Type 0} (P : A → Type 0) (a : A) (o : Option (List Token)) → P a → Leaves o
    → Keeps P (option_map (λ rest. (a, rest)) o)
put_keeps P a None p k = tt
put_keeps P a (Some rest) p k = (p, k)

pub leaf_keeps : {X A : Type 0} (P : A → Type 0) (make : X → A) (o : Option X) (ts : List Token)
    → ((x : X) → o ≡ Some x → P (make x)) → Good ts
    → Keeps P (option_map (λ x. (make x, ts)) o)
leaf_keeps P make None ts h g = tt
leaf_keeps P make (Some x) ts h g = (h x refl, g)

-- signs and words
pub rest_good : (t : Token) (ts : List Token) → Good (t ∷ ts) → Good ts
rest_good t ts h = ((and_parts (is_good t.lexeme) (list_all (λ t. is_good t.lexeme) ts) h.0).1, less (length ts) h.1)
  where
    less : (n : ℕ) → suc n ≤ 4000 → n ≤ 4000
    less n h = omega (arith, h)

pub first_good : (t : Token) (ts : List Token) → Good (t ∷ ts) → is_good t.lexeme ≡ true
first_good t ts h = (and_parts (is_good t.lexeme) (list_all (λ t. is_good t.lexeme) ts) h.0).0

pub some_if : (b : Bool) (ts : List Token) → Good ts → Leaves (cond b (Some ts) None)
some_if true ts h = h
some_if false ts h = tt

pub sign_leaves : (which : Sign) (ts : List Token) → Good ts → Leaves (after_sign which ts)
sign_leaves which [] h = tt
sign_leaves which (t ∷ ts) h = some_if (is_sign which t.lexeme) ts (rest_good t ts h)

pub word_leaves : (which : Reserved) (ts : List Token) → Good ts → Leaves (after_word which ts)
word_leaves which [] h = tt
word_leaves which (t ∷ ts) h = some_if (is_word which t.lexeme) ts (rest_good t ts h)

pub sign_reads : (which : Sign) → Reads Anything (sign which)
sign_reads which ts h = put_keeps Anything tt (after_sign which ts) tt (sign_leaves which ts h)

pub word_reads : (which : Reserved) → Reads Anything (word which)
word_reads which ts h = put_keeps Anything tt (after_word which ts) tt (word_leaves which ts h)

-- parentheses
pub closed_keeps : {A : Type 0} (P : A → Type 0) (o : Option (A × List Token)) → Keeps P o → Keeps P (closed o)
closed_keeps P o k =
    then_keeps P P o (λ found. option_map (λ rest. (found.0, rest)) (after_sign CloseParen found.1)) k
    (λ found p g. put_keeps P found.0 (after_sign CloseParen found.1) p (sign_leaves CloseParen found.1 g))

pub grouped_reads : {A : Type 0} (P : A → Type 0) (read : Reader A) → Reads P read → Reads P (grouped read)
grouped_reads P read reads ts h =
    then_rest P (after_sign OpenParen ts) (λ rest. closed (read rest)) (sign_leaves OpenParen ts h)
    (λ rest g. closed_keeps P (read rest) (reads rest g))

-- chains
more_keeps : {A O : Type 0} (P : A → Type 0) (operator : Reader O) (join : O → A → A → A) (read : Reader A)
    → Reads Anything operator → Reads P read
    → ((o : O) (a b : A) → P a → P b → P (join o a b)) → (n : ℕ) (left : A) → P left
    → Reads P (more_in operator join read n left)
more_keeps P operator join read operators reads joins zero left p ts h = (p, h)
more_keeps {A = A} {O = O} P operator join read operators reads joins (suc n) left p ts h =
    by (operator ts) (operators ts h) (λ o right q. more_keeps P operator join read operators reads joins n
    (join o left right) (joins o left right p q))
  where
    by : (o : Option (O × List Token)) → Keeps Anything o
        → ((o : O) (right : A) → P right → Reads P (more_in operator join read n (join o left right)))
        → Keeps P (either o (Some (left, ts)) (λ found. then (read found.1)
        (λ right. more_in operator join read n (join found.0 left right.0) right.1)))
    by None k on = (p, h)
    by (Some found) k on =
        then_keeps P P (read found.1) (λ right. more_in operator join read n (join found.0 left right.0) right.1)
        (reads found.1 k.1)
        (λ right q g. on found.0 right.0 q right.1 g)

pub chain_reads : {A O : Type 0} (P : A → Type 0) (operator : Reader O) (join : O → A → A → A) (read : Reader A)
    → Reads Anything operator → Reads P read
    → ((o : O) (a b : A) → P a → P b → P (join o a b)) → Reads P (chain operator join read)
chain_reads P operator join read operators reads joins ts h =
    then_keeps P P (read ts) (λ found. chained operator join read found.0 found.1) (reads ts h)
    (λ found p g. more_keeps P operator join read operators reads joins (length found.1) found.0 p found.1 g)

pub listed_reads : {A : Type 0} (P : A → Type 0) (L : List A → Type 0) (separator : Sign) (read : Reader A)
    → Reads P read
    → ((x : A) → P x → L (x ∷ [])) → ((xs ys : List A) → L xs → L ys → L (xs ++ ys)) → Reads L (listed separator read)
listed_reads P L separator read reads one joins =
    chain_reads L (sign separator) append (single read) (sign_reads separator)
    (λ ts h. made_keeps P L (λ x. x ∷ []) (read ts) (reads ts h) one)
    (λ u xs ys p q. joins xs ys p q)

-- no more things are listed than steps are taken
abbrev pub Counts : {A : Type 0} → ℕ → Option (List A × List Token) → Type 0
Counts n None = Unit {0}
Counts n (Some found) = length found.0 ≤ n

few_more : {A : Type 0} (separator : Sign) (read : Reader A) (n : ℕ) (left : List A) (ts : List Token)
    → Counts (length left + n) (more_in (sign separator) append (single read) n left ts)
few_more separator read zero left ts = omega arith
few_more {A = A} separator read (suc n) left ts =
    by (sign separator ts) (λ x rest. few_more separator read n (left ++ x ∷ []) rest)
  where
    longer : (x : A) (o : Option (List A × List Token)) → Counts (length (left ++ x ∷ []) + n) o
        → Counts (length left + suc n) o
    longer x None c = tt
    longer x (Some found) c = omega (arith, c, length-append left (x ∷ []))

    step : (o : Option (A × List Token)) → ((x : A) (rest : List Token)
        → Counts (length (left ++ x ∷ []) + n) (more_in (sign separator) append (single read) n (left ++ x ∷ []) rest))
        → Counts (length left + suc n) (then (made (λ x. x ∷ []) o)
        (λ right. more_in (sign separator) append (single read) n (left ++ right.0) right.1))
    step None on = tt
    step (Some found) on =
        longer found.0 (more_in (sign separator) append (single read) n (left ++ found.0 ∷ []) found.1)
        (on found.0 found.1)

    by : (o : Option (Unit {0} × List Token)) → ((x : A) (rest : List Token)
        → Counts (length (left ++ x ∷ []) + n) (more_in (sign separator) append (single read) n (left ++ x ∷ []) rest))
        → Counts (length left + suc n) (either o (Some (left, ts)) (λ found. then (single read found.1)
        (λ right. more_in (sign separator) append (single read) n (append found.0 left right.0) right.1)))
    by None on = omega arith
    by (Some found) on = step (read found.1) on

-- nor than there are tokens, with one more
pub listed_few : {A : Type 0} (P : A → Type 0) (separator : Sign) (read : Reader A) → Reads P read → (ts : List Token)
    → Good ts
    → Counts 4001 (listed separator read ts)
listed_few {A = A} P separator read reads ts h = by (read ts) (reads ts h)
  where
    by : (o : Option (A × List Token)) → Keeps P o
        → Counts 4001 (then (made (λ x. x ∷ []) o)
        (λ found. more_in (sign separator) append (single read) (length found.1) found.0 found.1))
    by None k = tt
    by (Some found) k =
        few (more_in (sign separator) append (single read) (length found.1) (found.0 ∷ []) found.1)
        (few_more separator read (length found.1) (found.0 ∷ []) found.1)
      where
        few : (o : Option (List A × List Token)) → Counts (1 + length found.1) o → Counts 4001 o
        few None c = tt
        few (Some got) c = let most = k.1.1 in omega (arith, c, most)
