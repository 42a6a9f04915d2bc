-- Laws of sets as lists.
use Rattle.std.proofs.Common.{◌≡◌, ◌<◌, ◌≤◌, Bool, true, false, cond, ◌||◌, ◌⊎◌, List, [], ◌∷◌, ◌++◌, length, refl, sym}
use Rattle.std.proofs.Common.{◌∙◌, ap, subst, inl, inr, arith}
use Rattle.std.specs.List.{list_any, list_all, filter, IsDistinct, AllByRecursion}
use Rattle.std.proofs.lemmas.Bool.{or_cases, or_left, or_right, or_parts, or_from, and_parts, and_from}
use Rattle.std.proofs.lemmas.List.Folds.{list_any-append}
use Rattle.vc_base.specs.Sets.{has, with_all, Within}

-- two tests that follow from each other are equal
pub same_test : (p q : Bool) → (p ≡ true → q ≡ true) → (q ≡ true → p ≡ true) → p ≡ q
same_test true q f g = sym (f refl)
same_test false true f g = g refl
same_test false false f g = refl

-- a test is one or the other
pub told : (b : Bool) → (b ≡ true) ⊎ (b ≡ false)
told true = inl refl
told false = inr refl

-- two answers of one test exclude each other
pub both : {b : Bool} → b ≡ true → b ≡ false → ⊥
both p q = cc

-- what no element passes, each element fails
pub none_from : {A : Type 0} (p : A → Bool) (xs : List A) → list_any p xs ≡ false → AllByRecursion (λ x. p x ≡ false) xs
none_from p [] e = tt
none_from p (x ∷ xs) e = none_step (p x) (list_any p xs) e (none_from p xs)
  where
    none_step : {P : Type 0} (b c : Bool) → (b || c) ≡ false → (c ≡ false → P) → (b ≡ false) × P
    none_step true c e f = absurd (cc)
    none_step false c e f = (refl, f e)

-- the laws of a test that tells elements exactly
module _ {A : Type 0} (same : A → A → Bool) (exact : (a b : A) → same a b ≡ true → a ≡ b)
    (itself : (a : A) → same a a ≡ true) where
  -- an element of two sets together is in one of them
  pub has_either : (xs ys : List A) (a : A) → has same (xs ++ ys) a ≡ true
      → (has same xs a ≡ true) ⊎ (has same ys a ≡ true)
  has_either xs ys a h = or_cases (has same xs a) (has same ys a) (sym (list_any-append (same a) xs ys) ∙ h)

  pub has_front : (xs ys : List A) (a : A) → has same xs a ≡ true → has same (xs ++ ys) a ≡ true
  has_front xs ys a h = list_any-append (same a) xs ys ∙ or_left (has same xs a) (has same ys a) h

  pub has_back : (xs ys : List A) (a : A) → has same ys a ≡ true → has same (xs ++ ys) a ≡ true
  has_back xs ys a h = list_any-append (same a) xs ys ∙ or_right (has same xs a) (has same ys a) h

  -- an element of a set stays in it when one more comes first
  pub has_more : (x : A) (xs : List A) (a : A) → has same xs a ≡ true → has same (x ∷ xs) a ≡ true
  has_more x xs a h = or_right (same a x) (has same xs a) h

  pub has_first : (x : A) (xs : List A) → has same (x ∷ xs) x ≡ true
  has_first x xs = or_left (same x x) (has same xs x) (itself x)

  -- an element of a set with one more is that one or was in it
  pub has_cases : (x : A) (xs : List A) (a : A) → has same (x ∷ xs) a ≡ true → (a ≡ x) ⊎ (has same xs a ≡ true)
  has_cases x xs a h = elim (or_cases (same a x) (has same xs a) h) [ inl e ↦ inl (exact a x e) | inr e ↦ inr e ]

  -- where the one more stands in a set that the others stand in, all do
  pub within_cons : (x : A) (xs ys : List A) → has same ys x ≡ true → Within same xs ys → Within same (x ∷ xs) ys
  within_cons x xs ys h w a e =
      elim (has_cases x xs a e) [ inl p ↦ subst (λ b. has same ys b ≡ true) (sym p) h | inr p ↦ w a p ]

  -- an element of a set stays in it when others come
  pub with_all_left : (xs ys : List A) (a : A) → has same xs a ≡ true → has same (with_all same xs ys) a ≡ true
  with_all_left xs [] a h = h
  with_all_left xs (y ∷ ys) a h =
      elim (has same xs y) as (λ b. has same (with_all same (cond b xs (y ∷ xs)) ys) a ≡ true) [
        | true ↦ with_all_left xs ys a h
        | false ↦ with_all_left (y ∷ xs) ys a (has_more y xs a h)
      ]

  -- each of the others comes
  pub with_all_right : (xs ys : List A) (a : A) → has same ys a ≡ true → has same (with_all same xs ys) a ≡ true
  with_all_right xs [] a h = absurd (cc)
  with_all_right xs (y ∷ ys) a h =
      elim (has_cases y ys a h) [
        | inl p ↦ elim (has same xs y) as
            (λ b. has same xs y ≡ b → has same (with_all same (cond b xs (y ∷ xs)) ys) a ≡ true) [
              | true ↦ λ e. with_all_left xs ys a (ap (has same xs) p ∙ e)
              | false ↦ λ e. with_all_left (y ∷ xs) ys a
                  (subst (λ z. has same (y ∷ xs) z ≡ true) (sym p) (has_first y xs))
            ] refl
        | inr p ↦ with_all_right (cond (has same xs y) xs (y ∷ xs)) ys a p
      ]

  -- nothing else comes
  pub with_all_cases : (xs ys : List A) (a : A) → has same (with_all same xs ys) a ≡ true
      → (has same xs a ≡ true) ⊎ (has same ys a ≡ true)
  with_all_cases xs [] a h = inl h
  with_all_cases xs (y ∷ ys) a h =
      elim (has same xs y) as
      (λ b. has same (with_all same (cond b xs (y ∷ xs)) ys) a ≡ true
      → (has same xs a ≡ true) ⊎ (has same (y ∷ ys) a ≡ true)) [
        | true ↦ λ e. elim (with_all_cases xs ys a e) [ inl p ↦ inl p | inr p ↦ inr (has_more y ys a p) ]
        | false ↦ λ e. elim (with_all_cases (y ∷ xs) ys a e) [
          | inl p ↦ elim (has_cases y xs a p)
              [ inl q ↦ inr (subst (λ z. has same (y ∷ ys) z ≡ true) (sym q) (has_first y ys)) | inr q ↦ inl q ]
          | inr p ↦ inr (has_more y ys a p)
        ]
      ] h

  -- a set stays as it is where all that comes stands already
  pub with_all_same : (xs ys : List A) → Within same ys xs → with_all same xs ys ≡ xs
  with_all_same xs [] w = refl
  with_all_same xs (y ∷ ys) w =
      ap (λ b. with_all same (cond b xs (y ∷ xs)) ys) (w y (has_first y ys))
      ∙ with_all_same xs ys (λ a h. w a (has_more y ys a h))

  -- no set gets shorter, and it gets longer by an element that it didn't have
  pub with_all_length : (xs ys : List A) → length xs ≤ length (with_all same xs ys)
  with_all_length xs [] = omega arith
  with_all_length xs (y ∷ ys) =
      elim (has same xs y) as (λ b. length xs ≤ length (with_all same (cond b xs (y ∷ xs)) ys)) [
        | true ↦ with_all_length xs ys
        | false ↦ let h : length (y ∷ xs) ≤ length (with_all same (y ∷ xs) ys) = with_all_length (y ∷ xs) ys in
            omega arith
      ]

  pub with_all_longer : (xs ys : List A) (a : A) → has same ys a ≡ true → has same xs a ≡ false
      → length xs < length (with_all same xs ys)
  with_all_longer xs [] a h n = absurd (cc)
  with_all_longer xs (y ∷ ys) a h n =
      elim (has same xs y) as (λ b. has same xs y ≡ b → length xs < length (with_all same (cond b xs (y ∷ xs)) ys)) [
        | true ↦ λ e. elim (has_cases y ys a h)
            [ inl p ↦ absurd (both (ap (has same xs) p ∙ e) n) | inr p ↦ with_all_longer xs ys a p n ]
        | false ↦ λ e. let h : length (y ∷ xs) ≤ length (with_all same (y ∷ xs) ys) = with_all_length (y ∷ xs) ys in
            omega arith
      ] refl

  -- a set without doubles stays one
  pub with_all_distinct : (xs ys : List A) → IsDistinct same xs → IsDistinct same (with_all same xs ys)
  unfolding IsDistinct
  with_all_distinct xs [] d = d
  with_all_distinct xs (y ∷ ys) d =
      elim (has same xs y) as (λ b. has same xs y ≡ b → IsDistinct same (with_all same (cond b xs (y ∷ xs)) ys)) [
        | true ↦ λ e. with_all_distinct xs ys d
        | false ↦ λ e. with_all_distinct (y ∷ xs) ys (none_from (same y) xs e, d)
      ] refl

  -- what each element passes, one of them passes, and the other way
  pub all_at : (p : A → Bool) (xs : List A) (a : A) → list_all p xs ≡ true → has same xs a ≡ true → p a ≡ true
  all_at p [] a all h = absurd (cc)
  all_at p (x ∷ xs) a all h =
      let both_parts : (p x ≡ true) × (list_all p xs ≡ true) = and_parts (p x) (list_all p xs) all in
      elim (has_cases x xs a h) [ inl q ↦ ap p q ∙ both_parts.0 | inr q ↦ all_at p xs a both_parts.1 q ]

  pub all_from : (p : A → Bool) (xs : List A) → ((a : A) → has same xs a ≡ true → p a ≡ true) → list_all p xs ≡ true
  all_from p [] f = refl
  all_from p (x ∷ xs) f =
      and_from (p x) (list_all p xs) (f x (has_first x xs)) (all_from p xs (λ a h. f a (has_more x xs a h)))

  -- what no element passes, one of them fails, and the other way
  pub none_at : (p : A → Bool) (xs : List A) (a : A) → list_any p xs ≡ false → has same xs a ≡ true → p a ≡ false
  none_at p [] a none h = absurd (cc)
  none_at p (x ∷ xs) a none h =
      let both_parts : (p x ≡ false) × (list_any p xs ≡ false) = or_parts (p x) (list_any p xs) none in
      elim (has_cases x xs a h) [ inl q ↦ ap p q ∙ both_parts.0 | inr q ↦ none_at p xs a both_parts.1 q ]

  pub none_passes : (p : A → Bool) (xs : List A) → ((a : A) → has same xs a ≡ true → p a ≡ false)
      → list_any p xs ≡ false
  none_passes p [] f = refl
  none_passes p (x ∷ xs) f =
      or_from (p x) (list_any p xs) (f x (has_first x xs)) (none_passes p xs (λ a h. f a (has_more x xs a h)))

  -- the elements that pass a test
  pub has_filter : (p : A → Bool) (xs : List A) (a : A) → has same (filter p xs) a ≡ true
      → (has same xs a ≡ true) × (p a ≡ true)
  has_filter p [] a h = absurd (cc)
  has_filter p (x ∷ xs) a h =
      elim (p x) as (λ b. p x ≡ b → has same (cond b (x ∷ filter p xs) (filter p xs)) a ≡ true
      → (has same (x ∷ xs) a ≡ true) × (p a ≡ true)) [
        | true ↦ λ e k. elim (has_cases x (filter p xs) a k) [
          | inl q ↦ (subst (λ z. has same (x ∷ xs) z ≡ true) (sym q) (has_first x xs), ap p q ∙ e)
          | inr q ↦ let r : (has same xs a ≡ true) × (p a ≡ true) = has_filter p xs a q in (has_more x xs a r.0, r.1)
        ]
        | false ↦ λ e k. let r : (has same xs a ≡ true)
            × (p a ≡ true) = has_filter p xs a k in (has_more x xs a r.0, r.1)
      ] refl h

  pub filter_has : (p : A → Bool) (xs : List A) (a : A) → has same xs a ≡ true → p a ≡ true
      → has same (filter p xs) a ≡ true
  filter_has p [] a h e = absurd (cc)
  filter_has p (x ∷ xs) a h e =
      elim (p x) as (λ b. p x ≡ b → has same (cond b (x ∷ filter p xs) (filter p xs)) a ≡ true) [
        | true ↦ λ k. elim (has_cases x xs a h) [
          | inl q ↦ subst (λ z. has same (x ∷ filter p xs) z ≡ true) (sym q) (has_first x (filter p xs))
          | inr q ↦ has_more x (filter p xs) a (filter_has p xs a q e)
        ]
        | false ↦ λ k. elim (has_cases x xs a h) [
          | inl q ↦ absurd (both e (ap p q ∙ k))
          | inr q ↦ filter_has p xs a q e
        ]
      ] refl

-- one element more that wasn't there
module _ {A : Type 0} (same : A → A → Bool) (exact : (a b : A) → same a b ≡ true → a ≡ b)
    (itself : (a : A) → same a a ≡ true) where
  more_apart : (a : A) (xs : List A) (b : A) → AllByRecursion (λ x. same a x ≡ false) xs → same a b ≡ false
      → AllByRecursion (λ x. same a x ≡ false) (xs ++ b ∷ [])
  more_apart a [] b h e = (e, tt)
  more_apart a (x ∷ xs) b h e = (h.0, more_apart a xs b h.1 e)

  pub distinct_more : (xs : List A) (b : A) → IsDistinct same xs → has same xs b ≡ false
      → IsDistinct same (xs ++ b ∷ [])
  unfolding IsDistinct
  distinct_more [] b d e = (tt, tt)
  distinct_more (x ∷ xs) b d e =
      let p = or_parts (same b x) (has same xs b) e in
      let apart : same x b ≡ false
      = elim (told (same x b)) [
        | inl q ↦ absurd (both (subst (λ z. same z x ≡ true) (exact x b q) (itself x)) p.0)
        | inr q ↦ q
      ] in
      (more_apart x xs b d.0 apart, distinct_more xs b d.1 p.1)
