-- Laws of numbers in a range, and of what is left of a list by a test.
use Rattle.std.proofs.Common.{◌≡◌, ℕ, zero, suc, ◌+◌, ◌-◌, ◌<◌, ◌≤◌, Bool, true, false, cond, not, ◌&&◌, ◌⊎◌, List, []}
use Rattle.std.proofs.Common.{◌∷◌, ◌++◌, length, map, get_or, refl, sym, ◌∙◌, ap, subst, inl, inr, arith, add-zero}
use Rattle.std.specs.Prelude.{None, Some, nat_eq, ◌==◌, position, nat_lt}
use Rattle.std.specs.List.{filter, find, list_all, range_with_len, position_or_len}
use Rattle.std.proofs.lemmas.Bool.{eqb-true, eqb-false, eq-eqb, ltb-true, ltb-false}
use Rattle.std.proofs.lemmas.List.Elements.{filter-append}
use Rattle.vc_base.specs.Numbers.{numbers_below}
use Rattle.vc_base.specs.Sets.{has}
use Rattle.vc_base.proofs.SetLaws.{told, both, has_cases, has_first, has_more}

-- equality of numbers tells them apart
pub number_exact : (a b : ℕ) → nat_eq a b ≡ true → a ≡ b
number_exact a b e = eqb-true a b e

pub number_itself : (a : ℕ) → nat_eq a a ≡ true
number_itself a = eq-eqb a a refl

-- a range of two parts
pub range_split : (a m n k b : ℕ) → k ≡ m + n → b ≡ a + m
    → range_with_len a k ≡ range_with_len a m ++ range_with_len b n
range_split a zero n k b e f =
    let k_is : k ≡ n = omega arith in
    let b_is : b ≡ a = omega arith in
    ap (range_with_len a) k_is ∙ ap (λ z. range_with_len z n) (sym b_is)
range_split a (suc m) n k b e f =
    let k_is : k ≡ suc (m + n) = omega arith in
    ap (range_with_len a) k_is ∙ ap (λ r. a ∷ r) (range_split (a + 1) m n (m + n) b refl (omega arith))

-- a number is in a range between its ends
pub range_has : (a n g : ℕ) → a ≤ g → g < a + n → has nat_eq (range_with_len a n) g ≡ true
range_has a zero g low high = absurd (omega arith)
range_has a (suc n) g low high =
    elim (told (nat_eq g a)) [
      | inl e ↦ subst (λ z. has nat_eq (a ∷ range_with_len (a + 1) n) z ≡ true) (sym (number_exact g a e))
          (has_first nat_eq number_exact number_itself a (range_with_len (a + 1) n))
      | inr e ↦
          let differ : (g ≡ a → ⊥) = eqb-false g a e in
          has_more nat_eq number_exact number_itself a (range_with_len (a + 1) n) g
          (range_has (a + 1) n g (omega arith) (omega arith))
    ]

pub has_range : (a n g : ℕ) → has nat_eq (range_with_len a n) g ≡ true → (a ≤ g) × (g < a + n)
has_range a zero g h = absurd (cc)
has_range a (suc n) g h =
    elim (has_cases nat_eq number_exact number_itself a (range_with_len (a + 1) n) g h) [
      | inl e ↦ (omega arith, omega arith)
      | inr e ↦ let r : (a + 1 ≤ g) × (g < (a + 1) + n) = has_range (a + 1) n g e in (omega arith, omega arith)
    ]

-- the numbers of a test, with one number more
pub filter_next : (p : ℕ → Bool) (n : ℕ)
    → filter p (numbers_below (n + 1)) ≡ filter p (numbers_below n) ++ cond (p n) (n ∷ []) []
filter_next p n =
    ap (filter p) (range_split 0 n 1 (n + 1) n refl (omega arith)) ∙ filter-append p (numbers_below n) (n ∷ [])

-- a number that passes comes after those below it that pass
pub filter_at : (p : ℕ → Bool) (i n : ℕ) → i < n → p i ≡ true
    → (more : List ℕ) × (filter p (numbers_below n) ≡ filter p (numbers_below i) ++ (i ∷ more))
filter_at p i n below passes =
    let split : range_with_len 0 n ≡ range_with_len 0 i ++ range_with_len i (suc (n - (i + 1)))
    = range_split 0 i (suc (n - (i + 1))) n i (omega arith) (omega arith) in
    let rest = filter p (range_with_len (i + 1) (n - (i + 1))) in (
      rest,
      ap (filter p) split
          ∙ (filter-append p (range_with_len 0 i) (range_with_len i (suc (n - (i + 1))))
          ∙ ap (λ b. filter p (range_with_len 0 i) ++ cond b (i ∷ rest) rest) passes),
    )

-- nothing is left where all pass, and the other way
pub filter_none : {A : Type 0} (p : A → Bool) (xs : List A) → filter (λ x. not (p x)) xs ≡ [] → list_all p xs ≡ true
filter_none p [] e = refl
filter_none p (x ∷ xs) e =
    elim (p x) as (λ b. cond (not b) (x ∷ filter (λ y. not (p y)) xs) (filter (λ y. not (p y)) xs) ≡ []
    → (b && list_all p xs) ≡ true) [
      | true ↦ λ k. filter_none p xs k
      | false ↦ λ k. absurd (cc)
    ] e

pub none_filter : {A : Type 0} (p : A → Bool) (xs : List A) → list_all p xs ≡ true → filter (λ x. not (p x)) xs ≡ []
none_filter p [] e = refl
none_filter p (x ∷ xs) e =
    elim (p x) as (λ b. (b && list_all p xs) ≡ true
    → cond (not b) (x ∷ filter (λ y. not (p y)) xs) (filter (λ y. not (p y)) xs) ≡ []) [
      | true ↦ λ k. none_filter p xs k
      | false ↦ λ k. absurd (cc)
    ] e

-- by a stricter test, nothing stays of nothing, and of one element that or nothing
pub filter_none_stays : {A : Type 0} (p q : A → Bool) → ((x : A) → q x ≡ true → p x ≡ true) → (xs : List A)
    → filter p xs ≡ [] → filter q xs ≡ []
filter_none_stays p q f [] e = refl
filter_none_stays p q f (x ∷ xs) e =
    elim (p x) as (λ b. p x ≡ b → cond b (x ∷ filter p xs) (filter p xs) ≡ [] → filter q (x ∷ xs) ≡ []) [
      | true ↦ λ is k. absurd (cc)
      | false ↦ λ is k. elim (q x) as (λ b. q x ≡ b → cond b (x ∷ filter q xs) (filter q xs) ≡ []) [
        | true ↦ λ now. absurd (both (f x now) is)
        | false ↦ λ now. filter_none_stays p q f xs k
      ] refl
    ] refl e

pub filter_one_stays : {A : Type 0} (p q : A → Bool) → ((x : A) → q x ≡ true → p x ≡ true) → (xs : List A) (g : A)
    → filter p xs ≡ g ∷ []
    → (filter q xs ≡ []) ⊎ (filter q xs ≡ g ∷ [])
filter_one_stays p q f [] g e = absurd (cc)
filter_one_stays p q f (x ∷ xs) g e =
    elim (p x) as (λ b. p x ≡ b → cond b (x ∷ filter p xs) (filter p xs) ≡ g ∷ []
    → (filter q (x ∷ xs) ≡ []) ⊎ (filter q (x ∷ xs) ≡ g ∷ [])) [
      | true ↦ λ is k.
          let same : x ≡ g = cc in
          let empty : filter p xs ≡ [] = cc in
          let rest : filter q xs ≡ [] = filter_none_stays p q f xs empty in
          elim (q x) as (λ b. (cond b (x ∷ filter q xs) (filter q xs) ≡ [])
          ⊎ (cond b (x ∷ filter q xs) (filter q xs) ≡ g ∷ [])) [
            | true ↦ inr (ap (λ t. x ∷ t) rest ∙ ap (λ t. t ∷ []) same)
            | false ↦ inl rest
          ]
      | false ↦ λ is k. elim (q x) as
          (λ b. q x ≡ b → (cond b (x ∷ filter q xs) (filter q xs) ≡ [])
          ⊎ (cond b (x ∷ filter q xs) (filter q xs) ≡ g ∷ [])) [
            | true ↦ λ now. absurd (both (f x now) is)
            | false ↦ λ now. filter_one_stays p q f xs g k
          ] refl
    ] refl e

-- a range mapped number by number is a list mapped element by element
pub map_range : {X Y : Type 0} (f : ℕ → Y) (h : X → Y) (d : X) (xs : List X) (a : ℕ)
    → ((i : ℕ) → i < length xs → f (a + i) ≡ h (get_or xs i d)) → map f (range_with_len a (length xs)) ≡ map h xs
map_range f h d [] a e = refl
map_range f h d (x ∷ xs) a e =
    let first : f a ≡ h x = ap f (sym (add-zero a)) ∙ e 0 (omega arith) in
    let rest : map f (range_with_len (a + 1) (length xs)) ≡ map h xs
    = map_range f h d xs (a + 1) (λ i below. ap f (omega arith) ∙ e (suc i) (omega arith)) in
    ap (λ t. t ∷ map f (range_with_len (a + 1) (length xs))) first ∙ ap (λ t. h x ∷ t) rest

-- the number itself is found in a range that has it
pub find_number : (a n h : ℕ) → a ≤ h → h < a + n → find (λ g. g == h) (range_with_len a n) ≡ Some h
find_number a zero h low high = absurd (omega arith)
find_number a (suc n) h low high =
    elim (a == h) as (λ b. (a == h) ≡ b → cond b (Some a) (find (λ g. g == h) (range_with_len (a + 1) n)) ≡ Some h) [
      | true ↦ λ e. ap Some (eqb-true a h e)
      | false ↦ λ e. let differ : (a ≡ h → ⊥) = eqb-false a h e in find_number (a + 1) n h (omega arith) (omega arith)
    ] refl

-- nothing is found where no number passes
pub find_none : (a n : ℕ) → find (λ g. false) (range_with_len a n) ≡ None
find_none a zero = refl
find_none a (suc n) = find_none (a + 1) n

-- what a position says
pub position_found : {A : Type 0} (p : A → Bool) (xs : List A) (at : ℕ) → position p xs ≡ Some at
    → (position_or_len p xs ≡ at) × (at < length xs)
position_found p xs at h =
    elim (nat_lt (position_or_len p xs) (length xs)) as
    (λ b. nat_lt (position_or_len p xs) (length xs) ≡ b → cond b (Some (position_or_len p xs)) None ≡ Some at
    → (position_or_len p xs ≡ at) × (at < length xs)) [
      | true ↦ λ test e. let same : position_or_len p xs
          ≡ at = cc in (same, let below : position_or_len p xs < length xs = ltb-true _ _ test in omega arith)
      | false ↦ λ test e. cc
    ] refl h

-- what no position says
pub position_missing : {A : Type 0} (p : A → Bool) (xs : List A) → position p xs ≡ None
    → length xs ≤ position_or_len p xs
position_missing p xs h =
    elim (nat_lt (position_or_len p xs) (length xs)) as
    (λ b. nat_lt (position_or_len p xs) (length xs) ≡ b → cond b (Some (position_or_len p xs)) None ≡ None
    → length xs ≤ position_or_len p xs) [
      | true ↦ λ test e. cc
      | false ↦ λ test e. ltb-false _ _ test
    ] refl h
