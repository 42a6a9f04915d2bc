-- Chains of operands: a step at a time, apart from the bound in their definition.
use Rattle.std.proofs.Common.{◌≡◌, ℕ, zero, suc, ◌<◌, ◌≤◌, List, [], ◌∷◌, length, Option, Some, None, ◌++◌, option_map}
use Rattle.std.proofs.Common.{◌⊎◌, inl, inr, refl, sym, ap, subst, ◌∙◌, append_assoc, length-append, arith}
use Rattle.vc_syntax_tokens.specs.declared.token.Token.{Token}
use Rattle.vc_syntax_terms.specs.Reading.{Reader, then, either, more_in, chained, chain}

-- a reader that leaves no more tokens than there were, and one that takes some
abbrev pub Shortens : {A : Type 0} → Reader A → Type 0
Shortens {A} read = (ts : List Token) (found : A × List Token) → read ts ≡ Some found → length found.1 ≤ length ts

abbrev pub Takes : {A : Type 0} → Reader A → Type 0
Takes {A} read = (ts : List Token) (found : A × List Token) → read ts ≡ Some found → length found.1 < length ts

either_same : {A B : Type 0} (option : Option A) (without : Option B) (f g : A → Option B)
    → ((x : A) → option ≡ Some x → f x ≡ g x) → either option without f ≡ either option without g
either_same None without f g same = refl
either_same (Some x) without f g same = same x refl

either_none : {A B : Type 0} (option : Option A) (without : Option B) (f : A → Option B)
    → ((x : A) → option ≡ Some x → ⊥) → either option without f ≡ without
either_none None without f none = refl
either_none (Some x) without f none = absurd (none x refl)

then_same : {A B : Type 0} (option : Option A) (f g : A → Option B)
    → ((x : A) → option ≡ Some x → f x ≡ g x) → then option f ≡ then option g
then_same None f g same = refl
then_same (Some x) f g same = same x refl

module _ {A O : Type 0} (operator : Reader O) (join : O → A → A → A) (read : Reader A) (takes : Takes operator)
    (shortens : Shortens read) where
  more_enough : (n m : ℕ) (left : A) (ts : List Token) → length ts ≤ n → length ts ≤ m
      → more_in operator join read n left ts ≡ more_in operator join read m left ts
  more_enough zero zero left ts h k = refl
  more_enough zero (suc m) left ts h k =
      sym (either_none (operator ts) _ _ (λ found e. omega (arith, takes ts found e)))
  more_enough (suc n) zero left ts h k = either_none (operator ts) _ _ (λ found e. omega (arith, takes ts found e))
  more_enough (suc n) (suc m) left ts h k = either_same (operator ts) _ _ _ (λ found e.
      then_same (read found.1) _ _ (λ right f. more_enough n m _ _
      (omega (arith, takes ts found e, shortens found.1 right f))
      (omega (arith, takes ts found e, shortens found.1 right f))))

  pub chained_step : (left : A) (ts : List Token) (found : O × List Token) (right : A × List Token)
      → operator ts ≡ Some found → read found.1 ≡ Some right
      → chained operator join read left ts ≡ chained operator join read (join found.0 left right.0) right.1
  chained_step left [] found right e f = let h : length found.1 < 0 = takes [] found e in let no : ⊥ = omega arith in
      absurd no
  chained_step left (t ∷ ts) found right e f =
      ap (λ o. either o (Some (left, t ∷ ts))
      (λ x. then (read x.1) (λ y. more_in operator join read (length ts) (join x.0 left y.0) y.1))) e
      ∙ ap (λ o. then o (λ y. more_in operator join read (length ts) (join found.0 left y.0) y.1)) f
      ∙ more_enough (length ts) (length right.1) _ _
      (omega (arith, takes (t ∷ ts) found e, shortens found.1 right f)) (omega arith)

  pub chained_fails : (left : A) (ts : List Token) (found : O × List Token) → operator ts ≡ Some found
      → read found.1 ≡ None
      → chained operator join read left ts ≡ None
  chained_fails left [] found e f = let h : length found.1 < 0 = takes [] found e in let no : ⊥ = omega arith in
      absurd no
  chained_fails left (t ∷ ts) found e f =
      ap (λ o. either o (Some (left, t ∷ ts))
      (λ x. then (read x.1) (λ y. more_in operator join read (length ts) (join x.0 left y.0) y.1))) e
      ∙ ap (λ o. then o (λ y. more_in operator join read (length ts) (join found.0 left y.0) y.1)) f

  pub chain_shorter : (ts : List Token) (found : O × List Token) (right : A × List Token) → operator ts ≡ Some found
      → read found.1 ≡ Some right
      → length right.1 < length ts
  chain_shorter ts found right e f = omega (arith, takes ts found e, shortens found.1 right f)

  -- a turn of a loop along a chain
  pub chain_turn : (left joined : A) (ts : List Token) (found : O × List Token) (right : A × List Token)
      (all : Option (A × List Token))
      → Some found ≡ operator ts → read found.1 ≡ Some right → Some (join found.0 left right.0) ≡ Some joined
      → chained operator join read left ts ≡ all → chained operator join read joined right.1 ≡ all
  chain_turn left joined ts found right all e f g h = let same : join found.0 left right.0 ≡ joined = cc in
      ap (λ x. chained operator join read x right.1) (sym same) ∙ sym (chained_step left ts found right (sym e) f) ∙ h

pub chained_stops : {A O : Type 0} (operator : Reader O) (join : O → A → A → A) (read : Reader A) (left : A)
    (ts : List Token)
    → operator ts ≡ None → chained operator join read left ts ≡ Some (left, ts)
chained_stops operator join read left [] e = refl
chained_stops operator join read left (t ∷ ts) e =
    ap (λ o. either o (Some (left, t ∷ ts))
    (λ x. then (read x.1) (λ y. more_in operator join read (length ts) (join x.0 left y.0) y.1))) e

-- what was read stands in front, and spells it
abbrev pub Took : {A : Type 0} → (List Token → A → Type 0) → List Token → A × List Token → Type 0
Took IsA ts found = (front : List Token) × (ts ≡ front ++ found.1) × IsA front found.0

-- what a reader reads, the grammar says
abbrev pub IsSound : {A : Type 0} → Reader A → (List Token → A → Type 0) → Type 0
IsSound {A} read IsA = (ts : List Token) (found : A × List Token) → read ts ≡ Some found → Took IsA ts found

-- the same of a reader of one token
abbrev pub Reads : {O : Type 0} → Reader O → (Token → O → Type 0) → Type 0
Reads {O} operator IsO = (ts : List Token) (found : O × List Token) → operator ts ≡ Some found
    → (t : Token) × (ts ≡ t ∷ found.1) × IsO t found.0

pub sound_shortens : {A : Type 0} (read : Reader A) (IsA : List Token → A → Type 0) → IsSound read IsA → Shortens read
sound_shortens read IsA sound ts found e = let took : Took IsA ts found = sound ts found e in
    omega (arith, length-append took.0 found.1, ap length took.1)

pub reads_takes : {O : Type 0} (operator : Reader O) (IsO : Token → O → Type 0) → Reads operator IsO → Takes operator
reads_takes operator IsO reads ts found e = let took : (t : Token) × (ts ≡ t ∷ found.1)
    × IsO t found.0 = reads ts found e in
    omega (arith, ap length took.1)

pub then_some : {A B : Type 0} (option : Option A) (next : A → Option B) (y : B) → then option next ≡ Some y
    → (x : A) × (option ≡ Some x) × (next x ≡ Some y)
then_some None next y e = absurd (cc)
then_some (Some x) next y e = (x, refl, e)

pub map_some : {A B : Type 0} (option : Option A) (f : A → B) (y : B) → option_map f option ≡ Some y
    → (x : A) × (option ≡ Some x) × (f x ≡ y)
map_some None f y e = absurd (cc)
map_some (Some x) f y e = (x, refl, cc)

pub either_some : {A B : Type 0} (option : Option A) (without : Option B) (next : A → Option B) (y : B)
    → either option without next ≡ Some y
    → ((option ≡ None) × (without ≡ Some y)) ⊎ ((x : A) × (option ≡ Some x) × (next x ≡ Some y))
either_some None without next y e = inl (refl, e)
either_some (Some x) without next y e = inr (x, refl, e)

module _ {A O : Type 0} (operator : Reader O) (IsO : Token → O → Type 0) (join : O → A → A → A) (read : Reader A)
    (IsA IsChain : List Token → A → Type 0) (reads : Reads operator IsO) (sound : IsSound read IsA)
    (more : (ts : List Token) (t : Token) (us : List Token) (left right : A) (o : O) → IsChain ts left → IsO t o
    → IsA us right → IsChain (ts ++ t ∷ us) (join o left right)) where
  abbrev Grown : List Token → List Token → A × List Token → Type 0
  Grown front ts found = (all : List Token) × (front ++ ts ≡ all ++ found.1) × IsChain all found.0

  ended : (front : List Token) (left : A) (ts : List Token) (found : A × List Token) → IsChain front left
      → Some (left, ts) ≡ Some found → Grown front ts found
  ended front left ts found d e = let same : (left, ts) ≡ found = cc in
      let P : A × List Token → Type 0 = λ x. Grown front ts x in subst P same (front, refl, d)

  more_is : (n : ℕ) (front : List Token) (left : A) (ts : List Token) (found : A × List Token) → IsChain front left
      → more_in operator join read n left ts ≡ Some found → Grown front ts found
  more_is zero front left ts found d e = ended front left ts found d e
  more_is (suc n) front left ts found d e = elim (either_some (operator ts) _ _ found e) [
    | inl p ↦ ended front left ts found d p.1
    | inr p ↦
        let o : (t : Token) × (ts ≡ t ∷ p.0.1) × IsO t p.0.0 = reads ts p.0 p.1 in
        let q : (x : A × List Token) × (read p.0.1 ≡ Some x)
        × (more_in operator join read n (join p.0.0 left x.0) x.1 ≡ Some found) =
        then_some (read p.0.1) _ found p.2 in
        let r : Took IsA p.0.1 q.0 = sound p.0.1 q.0 q.1 in
        let g : Grown (front ++ o.0 ∷ r.0) q.0.1 found
        = more_is n (front ++ o.0 ∷ r.0) (join p.0.0 left q.0.0) q.0.1 found
        (more front o.0 r.0 left q.0.0 p.0.0 d o.2 r.2) q.2 in (
          g.0,
          ap (λ x. front ++ x) (o.1 ∙ ap (λ x. o.0 ∷ x) r.1) ∙ sym (append_assoc front (o.0 ∷ r.0) q.0.1)
              ∙ g.1,
          g.2,
        )
  ]

  pub chain_is : ((ts : List Token) (x : A) → IsA ts x → IsChain ts x) → IsSound (chain operator join read) IsChain
  chain_is one ts found e =
      let p : (x : A × List Token) × (read ts ≡ Some x) × (chained operator join read x.0 x.1 ≡ Some found)
      = then_some (read ts) _ found e in
      let r : Took IsA ts p.0 = sound ts p.0 p.1 in
      let g : Grown r.0 p.0.1 found = more_is (length p.0.1) r.0 p.0.0 p.0.1 found (one r.0 p.0.0 r.2) p.2 in
      (g.0, r.1 ∙ g.1, g.2)
