-- Laws of lists under tests that follow from each other.
use Rattle.std.proofs.Common.{◌≡◌, ℕ, zero, suc, ◌≤◌, Bool, true, false, cond, not, List, [], ◌∷◌, length, refl, inl}
use Rattle.std.proofs.Common.{inr, arith}
use Rattle.std.specs.Prelude.{None, slice_get}
use Rattle.std.specs.List.{filter, list_any, list_all}
use Rattle.std.proofs.lemmas.Bool.{and_parts, and_from, or_cases, or_left, or_right}

-- the first test passes what the second passes
abbrev pub Implies : {A : Type 0} → (A → Bool) → (A → Bool) → Type 0
Implies {A = A} p q = (x : A) → p x ≡ true → q x ≡ true

pub not_grows : (b c : Bool) → (c ≡ true → b ≡ true) → not b ≡ true → not c ≡ true
not_grows b false f e = refl
not_grows true true f e = e
not_grows false true f e = absurd (no (f refl))
  where
    no : false ≡ true → ⊥
    no e = cc

pub all_grows : {A : Type 0} (p q : A → Bool) → Implies p q → (xs : List A) → list_all p xs ≡ true
    → list_all q xs ≡ true
all_grows p q f [] e = refl
all_grows p q f (x ∷ xs) e =
    let h : (p x ≡ true) × (list_all p xs ≡ true) = and_parts (p x) (list_all p xs) e in
    and_from (q x) (list_all q xs) (f x h.0) (all_grows p q f xs h.1)

pub any_grows : {A : Type 0} (p q : A → Bool) → Implies p q → (xs : List A) → list_any p xs ≡ true
    → list_any q xs ≡ true
any_grows p q f [] e = e
any_grows p q f (x ∷ xs) e =
    elim (or_cases (p x) (list_any p xs) e) [
      | inl h ↦ or_left (q x) (list_any q xs) (f x h)
      | inr h ↦ or_right (q x) (list_any q xs) (any_grows p q f xs h)
    ]

-- what all of a list pass, all of a part pass, and all of a smaller part
pub all_filter : {A : Type 0} (p q : A → Bool) (xs : List A) → list_all p xs ≡ true → list_all p (filter q xs) ≡ true
all_filter p q [] e = refl
all_filter p q (x ∷ xs) e =
    let h : (p x ≡ true) × (list_all p xs ≡ true) = and_parts (p x) (list_all p xs) e in
    step (q x) (filter q xs) h.0 (all_filter p q xs h.1)
  where
    step : (b : Bool) (ys : List _) → p x ≡ true → list_all p ys ≡ true → list_all p (cond b (x ∷ ys) ys) ≡ true
    step true ys h k = and_from (p x) (list_all p ys) h k
    step false ys h k = k

all_step : {A : Type 0} (p : A → Bool) (x : A) (ys zs : List A) (b c : Bool) → (c ≡ true → b ≡ true)
    → (list_all p ys ≡ true → list_all p zs ≡ true) → list_all p (cond b (x ∷ ys) ys) ≡ true
    → list_all p (cond c (x ∷ zs) zs) ≡ true
all_step p x ys zs true true f g e =
    let h : (p x ≡ true) × (list_all p ys ≡ true)
    = and_parts (p x) (list_all p ys) e in and_from (p x) (list_all p zs) h.0 (g h.1)
all_step p x ys zs true false f g e = let h : (p x ≡ true)
    × (list_all p ys ≡ true) = and_parts (p x) (list_all p ys) e in g h.1
all_step p x ys zs false true f g e = let no : false ≡ true = f refl in absurd (cc)
all_step p x ys zs false false f g e = g e

pub all_fewer : {A : Type 0} (p q r : A → Bool) → Implies r q → (xs : List A) → list_all p (filter q xs) ≡ true
    → list_all p (filter r xs) ≡ true
all_fewer p q r f [] e = refl
all_fewer p q r f (x ∷ xs) e = all_step p x (filter q xs) (filter r xs) (q x) (r x) (f x) (all_fewer p q r f xs) e

-- what one of a part passes, one of a larger part passes
any_step : {A : Type 0} (p : A → Bool) (x : A) (ys zs : List A) (b c : Bool) → (b ≡ true → c ≡ true)
    → (list_any p ys ≡ true → list_any p zs ≡ true) → list_any p (cond b (x ∷ ys) ys) ≡ true
    → list_any p (cond c (x ∷ zs) zs) ≡ true
any_step p x ys zs true true f g e =
    elim (or_cases (p x) (list_any p ys) e) [
      | inl h ↦ or_left (p x) (list_any p zs) h
      | inr h ↦ or_right (p x) (list_any p zs) (g h)
    ]
any_step p x ys zs true false f g e = let no : false ≡ true = f refl in absurd (cc)
any_step p x ys zs false true f g e = or_right (p x) (list_any p zs) (g e)
any_step p x ys zs false false f g e = g e

pub any_more : {A : Type 0} (p q r : A → Bool) → Implies q r → (xs : List A) → list_any p (filter q xs) ≡ true
    → list_any p (filter r xs) ≡ true
any_more p q r f [] e = e
any_more p q r f (x ∷ xs) e = any_step p x (filter q xs) (filter r xs) (q x) (r x) (f x) (any_more p q r f xs) e

-- whether a list has an element
abbrev pub is_some_of : {A : Type 0} → List A → Bool
is_some_of [] = false
is_some_of (x ∷ xs) = true

-- where one passes, a part by a test that follows isn't empty
pub some_filter : {A : Type 0} (p q : A → Bool) → Implies p q → (xs : List A) → list_any p xs ≡ true
    → is_some_of (filter q xs) ≡ true
some_filter p q f [] e = e
some_filter p q f (x ∷ xs) e =
    elim (or_cases (p x) (list_any p xs) e) [
      | inl h ↦ first (q x) (filter q xs) (f x h)
      | inr h ↦ later (q x) (filter q xs) (some_filter p q f xs h)
    ]
  where
    first : (b : Bool) (ys : List _) → b ≡ true → is_some_of (cond b (x ∷ ys) ys) ≡ true
    first true ys e = refl
    first false ys e = absurd (cc)

    later : (b : Bool) (ys : List _) → is_some_of ys ≡ true → is_some_of (cond b (x ∷ ys) ys) ≡ true
    later true ys e = refl
    later false ys e = e

-- past the end of a list there is nothing
pub get_past : {A : Type 0} (xs : List A) (i : ℕ) → length xs ≤ i → slice_get xs i ≡ None
get_past [] i h = refl
get_past (x ∷ xs) zero h = absurd (omega arith)
get_past (x ∷ xs) (suc i) h = get_past xs i (omega arith)
