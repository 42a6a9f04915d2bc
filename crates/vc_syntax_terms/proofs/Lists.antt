-- Lists with a separator between their members.
use Rattle.std.proofs.Common.{◌≡◌, ℕ, ◌<◌, ◌≤◌, List, [], ◌∷◌, ◌++◌, length, Option, Some, None, refl, sym, ap, subst}
use Rattle.std.proofs.Common.{◌∙◌, append_assoc, length-append, map, arith}
use Rattle.vc_syntax_tokens.specs.declared.token.Token.{Token}
use Rattle.vc_syntax_tokens.specs.declared.token.Sign.{Sign}
use Rattle.vc_syntax_tokens.specs.declared.token.Reserved.{Reserved}
use Rattle.vc_syntax_terms.specs.Leaves.{after_sign, after_word}
use Rattle.vc_syntax_terms.specs.Reading.{Reader, then, made, leaving_as, sign, word, append, single, listed, chained}
use Rattle.vc_syntax_terms.specs.TermGrammar.{IsSign, IsWord}
use Rattle.vc_syntax_terms.specs.ConditionGrammar as grammar
use Rattle.vc_syntax_terms.specs.ConditionGrammar.{IsListed}
use Rattle.vc_syntax_terms.proofs.Chains.{Took, IsSound, Reads, Shortens, Takes, reads_takes, map_some, chain_is}
use Rattle.vc_syntax_terms.proofs.Chains.{chained_step, chain_shorter, chained_stops}
use Rattle.vc_syntax_terms.proofs.TokenLaws.{after_sign_is, after_word_is, after_sign_again}

map-append : {A B : Type 0} (f : A → B) (xs ys : List A) → map f (xs ++ ys) ≡ map f xs ++ map f ys
map-append f [] ys = refl
map-append f (x ∷ xs) ys = ap (λ zs. f x ∷ zs) (map-append f xs ys)

abbrev pub SignStands : Sign → Token → Unit {0} → Type 0
SignStands which t u = IsSign which t

abbrev pub WordStands : Reserved → Token → Unit {0} → Type 0
WordStands which t u = IsWord which t

pub sign_reads : (which : Sign) → Reads (sign which) (SignStands which)
sign_reads which ts found e =
    let p : (rest : List Token) × (after_sign which ts ≡ Some rest) × ((tt, rest) ≡ found)
    = map_some (after_sign which ts) _ found e in
    let q : (t : Token) × (ts ≡ t ∷ p.0) × IsSign which t = after_sign_is which ts p.0 p.1 in
    (q.0, q.1 ∙ ap (λ x. q.0 ∷ x.1) p.2, q.2)

pub word_reads : (which : Reserved) → Reads (word which) (WordStands which)
word_reads which ts found e =
    let p : (rest : List Token) × (after_word which ts ≡ Some rest) × ((tt, rest) ≡ found)
    = map_some (after_word which ts) _ found e in
    let q : (t : Token) × (ts ≡ t ∷ p.0) × IsWord which t = after_word_is which ts p.0 p.1 in
    (q.0, q.1 ∙ ap (λ x. q.0 ∷ x.1) p.2, q.2)

pub sign_takes : (which : Sign) → Takes (sign which)
sign_takes which = reads_takes (sign which) (SignStands which) (sign_reads which)

pub word_takes : (which : Reserved) → Takes (word which)
word_takes which = reads_takes (word which) (WordStands which) (word_reads which)

module _ {A : Type 0} (separator : Sign) (read : Reader A) where
  single_shortens : Shortens read → Shortens (single read)
  single_shortens shortens ts found e =
      let p : (x : A × List Token) × (read ts ≡ Some x) × ((x.0 ∷ [], x.1) ≡ found) = map_some (read ts) _ found e in
      let P : List A × List Token → Type 0 = λ y. length y.1 ≤ length ts in subst P p.2 (shortens ts p.0 p.1)

  -- one more member
  pub listed_step : Shortens read → (xs : List A) (ts after rest : List Token) (x : A)
      → after_sign separator ts ≡ Some after → read after ≡ Some (x, rest)
      → chained (sign separator) append (single read) xs ts
      ≡ chained (sign separator) append (single read) (xs ++ x ∷ []) rest
  listed_step shortens xs ts after rest x e f =
      chained_step (sign separator) append (single read) (sign_takes separator) (single_shortens shortens) xs ts
      (tt, after) (x ∷ [], rest)
      (ap (λ o. leaving_as tt o) e) (ap (λ o. made (λ y. y ∷ []) o) f)

  pub listed_shorter : Shortens read → (ts after rest : List Token) (x : A) → after_sign separator ts ≡ Some after
      → read after ≡ Some (x, rest) → length rest < length ts
  listed_shorter shortens ts after rest x e f =
      chain_shorter (sign separator) append (single read) (sign_takes separator) (single_shortens shortens) ts
      (tt, after) (x ∷ [], rest)
      (ap (λ o. leaving_as tt o) e) (ap (λ o. made (λ y. y ∷ []) o) f)

  -- a turn of a loop along a list
  pub listed_turn : Shortens read
      → (xs ys : List A) (ts after rest : List Token) (x : A) (all : Option (List A × List Token))
      → Some after ≡ after_sign separator ts → read after ≡ Some (x, rest) → ys ≡ xs ++ x ∷ []
      → chained (sign separator) append (single read) xs ts ≡ all
      → chained (sign separator) append (single read) ys rest ≡ all
  listed_turn shortens xs ys ts after rest x all e f g h =
      ap (λ zs. chained (sign separator) append (single read) zs rest) g
      ∙ sym (listed_step shortens xs ts after rest x (sym e) f) ∙ h

-- the same, where the members in memory are seen as others
pub listed_turn_seen : {X A : Type 0} (see : X → A) (separator : Sign) (read : Reader A) → Shortens read
    → (xs ys : List X) (ts after rest : List Token) (x : X)
    (all : Option (List A × List Token)) → Some after ≡ after_sign separator ts → read after ≡ Some (see x, rest)
    → ys ≡ xs ++ x ∷ []
    → chained (sign separator) append (single read) (map see xs) ts ≡ all
    → chained (sign separator) append (single read) (map see ys) rest ≡ all
listed_turn_seen see separator read shortens xs ys ts after rest x all e f g h =
    listed_turn separator read shortens (map see xs) (map see ys) ts after rest (see x) all e f
    (ap (λ zs. map see zs) g ∙ map-append see xs (x ∷ [])) h

module _ {A : Type 0} (separator : Sign) (read : Reader A) (IsA : List Token → A → Type 0) (sound : IsSound read IsA)
  where
    -- a list of one
    abbrev IsOne : List Token → List A → Type 0
    IsOne ts xs = (x : A) × IsA ts x × (xs ≡ x ∷ [])

    single_is : IsSound (single read) IsOne
    single_is ts found e =
        let p : (x : A × List Token) × (read ts ≡ Some x) × ((x.0 ∷ [], x.1) ≡ found) = map_some (read ts) _ found e in
        let q : Took IsA ts p.0 = sound ts p.0 p.1 in
        let P : List A × List Token → Type 0 = λ y. Took IsOne ts y in
        subst P p.2 (q.0, q.1, (p.0.0, q.2, refl))

    one_listed : (ts : List Token) (xs : List A) → IsOne ts xs → IsListed separator IsA ts xs
    one_listed ts xs o = let P : List A
        → Type 0 = λ ys. IsListed separator IsA ts ys in subst P (sym o.2) (grammar.one o.1)

    more_listed : (ts : List Token) (t : Token) (us : List Token) (xs ys : List A) (u : Unit {0})
        → IsListed separator IsA ts xs → IsSign separator t → IsOne us ys
        → IsListed separator IsA (ts ++ t ∷ us) (append u xs ys)
    more_listed ts t us xs ys u d i o = let P : List A
        → Type 0 = λ zs. IsListed separator IsA (ts ++ t ∷ us) (xs ++ zs) in
        subst P (sym o.2) (grammar.more ts t us xs o.0 d i o.1)

    pub listed_is : IsSound (listed separator read) (IsListed separator IsA)
    listed_is = chain_is (sign separator) (SignStands separator) append (single read) IsOne (IsListed separator IsA)
        (sign_reads separator) single_is more_listed one_listed

-- the list is read, up to what is no separator
module _ {A : Type 0} (separator : Sign) (read : Reader A) (IsA : List Token → A → Type 0) (shortens : Shortens read)
    (n : ℕ) (Ends : List Token → Type 0)
    (separator_ends : (t : Token) (rest : List Token) → IsSign separator t → Ends (t ∷ rest))
    (again : (ts : List Token) (x : A) → IsA ts x → length ts ≤ n → (rest : List Token) → Ends rest
    → read (ts ++ rest) ≡ Some (x, rest)) where
  reads_listed : (ts : List Token) (xs : List A) → IsListed separator IsA ts xs → length ts ≤ n → (rest : List Token)
      → Ends rest
      → listed separator read (ts ++ rest) ≡ chained (sign separator) append (single read) xs rest
  reads_listed _ _ (grammar.one {ts = ts} {x = x} d) h rest ends =
      ap (λ o. then (made (λ y. y ∷ []) o) (λ found. chained (sign separator) append (single read) found.0 found.1))
      (again ts x d h rest ends)
  reads_listed _ _ (grammar.more ts t us xs x d i e) h rest ends =
      ap (λ y. listed separator read y) (append_assoc ts (t ∷ us) rest)
      ∙ reads_listed ts xs d (omega (arith, length-append ts (t ∷ us))) (t ∷ (us ++ rest))
      (separator_ends t (us ++ rest) i)
      ∙ listed_step separator read shortens xs (t ∷ (us ++ rest)) (us ++ rest) rest x
      (after_sign_again separator t (us ++ rest) i)
      (again us x e (omega (arith, length-append ts (t ∷ us))) rest ends)

  pub reads_whole_list : (ts : List Token) (xs : List A) → IsListed separator IsA ts xs → length ts ≤ n
      → (rest : List Token) → Ends rest → after_sign separator rest ≡ None
      → listed separator read (ts ++ rest) ≡ Some (xs, rest)
  reads_whole_list ts xs d h rest ends stops = reads_listed ts xs d h rest ends
      ∙ chained_stops (sign separator) append (single read) xs rest (ap (λ o. leaving_as tt o) stops)
