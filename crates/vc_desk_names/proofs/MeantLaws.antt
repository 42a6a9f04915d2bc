-- What is meant is there, and may be given.
use Rattle.std.proofs.Common.{◌≡◌, ℕ, zero, suc, ◌+◌, ◌<◌, Bool, true, false, cond, not, ◌&&◌, ◌||◌, List, [], ◌∷◌}
use Rattle.std.proofs.Common.{length, map, refl, sym, ap, ◌∙◌, subst, inl, inr, ◌⊎◌, arith}
use Rattle.std.specs.Prelude.{Option, None, Some, Result, Ok, Err, slice_get, ◌==◌, if◌then◌else◌}
use Rattle.std.specs.Option.{option_map}
use Rattle.std.specs.List.{filter, find, list_any, range_with_len}
use Rattle.std.proofs.lemmas.Bool.{and_from, and_parts, eq-eqb, eqb-true, or_left, or_right, or_cases}
use Rattle.vc_value.specs.declared.decimal.Dec.{Dec}
use Rattle.vc_value.specs.declared.decimal.NumFault.{NumFault}
use Rattle.vc_value.specs.Decimals.{read_number}
use Rattle.vc_value.specs.declared.table_header.Domain.{Domain}
use Rattle.vc_value.specs.declared.table_header.Domain.TheVariants.{Texts, Nums}
use Rattle.vc_value.specs.declared.value.Value.{Value}
use Rattle.vc_value.specs.declared.value.Value.TheVariants.{Text, Num}
use Rattle.vc_plan.specs.declared.conditions.Piece.TheVariants.{OneText}
use Rattle.vc_plan.specs.declared.plans.Named.TheVariants.{Var, Set}
use Rattle.vc_plan.specs.declared.plans.TextSet.{TextSet}
use Rattle.vc_plan.specs.declared.plans.Var.{Var as Variable}
use Rattle.vc_plan.specs.Classes.{has_its_sets, has_its_vars, has_sets, sets_at, vars_at}
use Rattle.vc_plan.specs.Domains.{domain_of, grains_of, grains_in, texts_of}
use Rattle.vc_plan.specs.Fitting.{may_have}
use Rattle.vc_plan.specs.Orders.{same_numbers}
use Rattle.vc_plan.specs.Parts.{is_var_of, var_of}
use Rattle.vc_plan.specs.Pieces.{lies_in_some}
use Rattle.vc_show.proofs.FittingLaws.{each_below}
use Rattle.vc_show_rows.specs.Rows.{class_of, is_set_of, named_by, named_of, set_named, set_of}
use Rattle.vc_session.specs.Edits.{may_be_given}
use Rattle.vc_desk_names.specs.Laws.{ListedMayBeGiven, OwnNamesAreMeant}
use Rattle.vc_desk_names.specs.Meant.{characteristic_named, is_word, named_if, number_for, value_of_domain}

-- what is found of a list is one of it
found_listed : (p : ℕ → Bool) (texts : List ℕ) (t : ℕ) → find p texts ≡ Some t
    → list_any (λ listed. listed == t) texts ≡ true
found_listed p [] t e = absurd (cc)
found_listed p (s ∷ texts) t e = by (p s) refl e (λ f. found_listed p texts t f)
  where
    by : (b : Bool) → p s ≡ b → cond b (Some s) (find p texts) ≡ Some t
        → (find p texts ≡ Some t → list_any (λ listed. listed == t) texts ≡ true)
        → ((s == t) || list_any (λ listed. listed == t) texts) ≡ true
    by true h f later = let same : s
        ≡ t = cc in or_left (s == t) (list_any (λ listed. listed == t) texts) (eq-eqb s t same)
    by false h f later = or_right (s == t) (list_any (λ listed. listed == t) texts) (later f)

text_of_list : (p : ℕ → Bool) (texts : List ℕ) (a : Value) → option_map Text (find p texts) ≡ Some a
    → (t : ℕ) × (a ≡ Text t) × (list_any (λ listed. listed == t) texts ≡ true)
text_of_list p texts a e = by (find p texts) refl e
  where
    by : (o : Option ℕ) → find p texts ≡ o → option_map Text o ≡ Some a
        → (t : ℕ) × (a ≡ Text t) × (list_any (λ listed. listed == t) texts ≡ true)
    by None h f = absurd (cc)
    by (Some t) h f = (t, (let same : Text t ≡ a = cc in sym same), found_listed p texts t h)

-- a listed text lies in its grain
text_lies : (texts : List ℕ) (t : ℕ) → list_any (λ listed. listed == t) texts ≡ true
    → lies_in_some (map OneText texts) (Text t) ≡ true
text_lies [] t e = absurd (cc)
text_lies (s ∷ texts) t e = by (or_cases (s == t) (list_any (λ listed. listed == t) texts) e) (text_lies texts t)
  where
    by : (s == t ≡ true) ⊎ (list_any (λ listed. listed == t) texts ≡ true)
        → (list_any (λ listed. listed == t) texts ≡ true → lies_in_some (map OneText texts) (Text t) ≡ true)
        → lies_in_some (map OneText (s ∷ texts)) (Text t) ≡ true
    by (inl here) rest = or_left (s == t) (lies_in_some (map OneText texts) (Text t)) here
    by (inr later) rest = or_right (s == t) (lies_in_some (map OneText texts) (Text t)) (rest later)

pub listed_may_be_given : ListedMayBeGiven
listed_may_be_given plan (Var v) word a e = by (domain_of plan (slice_get plan.vars v)) refl e
  where
    of_number : (r : Result Dec NumFault) → number_for plan v r ≡ Some a → may_have plan v a ≡ true
    of_number (Err fault) f = absurd (cc)
    of_number (Ok number) f = by (may_have plan v (Num number)) refl f
      where
        by : (b : Bool) → may_have plan v (Num number) ≡ b → (if b then Some (Num number) else None) ≡ Some a
            → may_have plan v a ≡ true
        by true h g = let same : Num number ≡ a = cc in subst (λ x. may_have plan v x ≡ true) same h
        by false h g = absurd (cc)

    by : (o : Option Domain) → domain_of plan (slice_get plan.vars v) ≡ o → value_of_domain plan v o word ≡ Some a
        → may_have plan v a ≡ true
    by None d f = absurd (cc)
    by (Some (Texts texts)) d f =
        let found = text_of_list (λ t. is_word word (slice_get plan.texts t)) texts a f in
        subst (λ x. may_have plan v x ≡ true) (sym found.1)
        (and_from (lies_in_some (grains_of plan v) (Text found.0)) true
        (ap (λ o. lies_in_some (grains_in o) (Text found.0)) d ∙ text_lies texts found.0 found.2) refl)
    by (Some (Nums decimals grains)) d f = of_number (read_number word) f
listed_may_be_given plan (Set s) word a e =
    let found = text_of_list (λ t. is_word word (slice_get plan.texts t)) (texts_of plan s) a e in
    subst (λ x. may_be_given plan (Set s) x ≡ true) (sym found.1) found.2

-- a slot's class has a variable or a set for each
found_in : (p : ℕ → Bool) (xs : List ℕ) (c : ℕ) → find p xs ≡ Some c → list_any (λ d. d == c) xs ≡ true
found_in p xs c e = found_listed p xs c e

left_in : (q : ℕ → Bool) (c : ℕ) (xs : List ℕ) → q c ≡ true → list_any (λ d. d == c) xs ≡ true
    → list_any (λ d. d == c) (filter q xs) ≡ true
left_in q c [] keeps e = absurd (cc)
left_in q c (x ∷ xs) keeps e =
    elim (or_cases (x == c) (list_any (λ d. d == c) xs) e) [
      | inl here ↦ (let same : x ≡ c = eqb-true x c here in here_left same)
      | inr later ↦ there (q x) (left_in q c xs keeps later)
    ]
  where
    here_left : x ≡ c → list_any (λ d. d == c) (filter q (x ∷ xs)) ≡ true
    here_left same =
        ap (λ b. list_any (λ d. d == c) (cond b (x ∷ filter q xs) (filter q xs))) (ap q same ∙ keeps)
        ∙ or_left (x == c) (list_any (λ d. d == c) (filter q xs)) (eq-eqb x c same)

    there : (b : Bool) → list_any (λ d. d == c) (filter q xs) ≡ true
        → list_any (λ d. d == c) (cond b (x ∷ filter q xs) (filter q xs)) ≡ true
    there true h = or_right (x == c) (list_any (λ d. d == c) (filter q xs)) h
    there false h = h

numbers_same : (xs ys : List ℕ) → same_numbers xs ys ≡ true → xs ≡ ys
numbers_same [] [] e = refl
numbers_same [] (y ∷ ys) e = absurd (cc)
numbers_same (x ∷ xs) [] e = absurd (cc)
numbers_same (x ∷ xs) (y ∷ ys) e =
    let parts = and_parts (x == y) (same_numbers xs ys) e in
    λ i. eqb-true x y parts.0 i ∷ numbers_same xs ys parts.1 i

-- what stands at a slot with a characteristic is found by its number
module _ {X : Type 0} (slot : X → ℕ) (characteristic : X → ℕ) (i c : ℕ) where
  abbrev is_at : Option X → Bool
  is_at None = false
  is_at (Some x) = (slot x == i) && (characteristic x == c)

  stands : (xs : List X) → list_any (λ d. d == c) (map characteristic (filter (λ x. slot x == i) xs)) ≡ true
      → (k : ℕ) × (k < length xs) × (is_at (slice_get xs k) ≡ true)
  stands [] e = absurd (cc)
  stands (x ∷ xs) e = by (slot x == i) refl e (λ h. one_more (stands xs h))
    where
      one_more : (k : ℕ) × (k < length xs) × (is_at (slice_get xs k) ≡ true)
          → (k : ℕ) × (k < length (x ∷ xs)) × (is_at (slice_get (x ∷ xs) k) ≡ true)
      one_more found = let low = found.1 in (suc found.0, omega (arith, low), found.2)

      by : (b : Bool) → (slot x == i) ≡ b
          → list_any (λ d. d == c)
          (map characteristic (cond b (x ∷ filter (λ y. slot y == i) xs) (filter (λ y. slot y == i) xs))) ≡ true
          → (list_any (λ d. d == c) (map characteristic (filter (λ y. slot y == i) xs)) ≡ true
          → (k : ℕ) × (k < length (x ∷ xs)) × (is_at (slice_get (x ∷ xs) k) ≡ true))
          → (k : ℕ) × (k < length (x ∷ xs)) × (is_at (slice_get (x ∷ xs) k) ≡ true)
      by false s h later = later h
      by true s h later =
          elim (or_cases (characteristic x == c)
          (list_any (λ d. d == c) (map characteristic (filter (λ y. slot y == i) xs))) h) [
            | inl here ↦ (0, omega arith, and_from (slot x == i) (characteristic x == c) s here)
            | inr more ↦ later more
          ]

-- a number of a range that passes is found
none_found : (p : ℕ → Bool) (a n k : ℕ) → find p (range_with_len a n) ≡ None → k < n → p (a + k) ≡ false
none_found p a zero k e low = absurd (omega (arith, low))
none_found p a (suc n) k e low = by (p a) refl e (λ f m less. none_found p (a + 1) n m f less) k low
  where
    by : (b : Bool) → p a ≡ b → cond b (Some a) (find p (range_with_len (a + 1) n)) ≡ None
        → (find p (range_with_len (a + 1) n) ≡ None → (m : ℕ) → m < n → p ((a + 1) + m) ≡ false) → (k : ℕ) → k < suc n
        → p (a + k) ≡ false
    by true h f later k low = absurd (cc)
    by false h f later zero low = let same : a + 0 ≡ a = omega arith in ap p same ∙ h
    by false h f later (suc k) low =
        let same : a + suc k ≡ (a + 1) + k = omega arith in ap p same ∙ later f k (omega (arith, low))

pub own_names_are_meant : OwnNamesAreMeant
own_names_are_meant plan i name valid there e = by (characteristic_named plan i name) refl e
  where
    class : List ℕ
    class = class_of plan i

    plain : 0 + i ≡ i
    plain = omega arith

    own_vars : vars_at plan i ≡ filter (λ c. not (has_sets plan c)) class
    own_vars =
        numbers_same (vars_at plan i) (filter (λ c. not (has_sets plan c)) class)
        (subst (λ j. has_its_vars plan j ≡ true) plain
        (each_below (has_its_vars plan) 0 (length plan.slots) i valid.class_vars there))

    own_sets : sets_at plan i ≡ filter (has_sets plan) class
    own_sets =
        numbers_same (sets_at plan i) (filter (has_sets plan) class)
        (subst (λ j. has_its_sets plan j ≡ true) plain
        (each_below (has_its_sets plan) 0 (length plan.slots) i valid.class_sets there))

    nothing : (c : ℕ) → list_any (λ d. d == c) class ≡ true → named_of plan i c ≡ None → ⊥
    nothing c member none = by_sets (has_sets plan c) refl
      where
        parts : (v s : Option ℕ) → named_by v (set_named s) ≡ None → (v ≡ None) × (s ≡ None)
        parts None None f = (refl, refl)
        parts None (Some s) f = absurd (cc)
        parts (Some v) s f = absurd (cc)

        neither : (var_of plan i c ≡ None) × (set_of plan i c ≡ None)
        neither = parts (var_of plan i c) (set_of plan i c) none

        by_sets : (b : Bool) → has_sets plan c ≡ b → ⊥
        by_sets true h =
            let member_set = left_in (has_sets plan) c class h member in
            let found = stands (λ (x : TextSet). x.slot) (λ (x : TextSet). x.characteristic) i c plan.sets
            (ap (list_any (λ d. d == c)) own_sets ∙ member_set) in
            let missing
            = none_found (λ s. is_set_of i c (slice_get plan.sets s)) 0 (length plan.sets) found.0 neither.1
            found.1 in
            let same : 0 + found.0 ≡ found.0 = omega arith in
            set_is (slice_get plan.sets found.0) found.2
            (ap (λ s. is_set_of i c (slice_get plan.sets s)) (sym same) ∙ missing)
          where
            set_is : (o : Option TextSet)
                → is_at (λ (x : TextSet). x.slot) (λ (x : TextSet). x.characteristic) i c o ≡ true
                → is_set_of i c o ≡ false → ⊥
            set_is None f g = cc
            set_is (Some x) f g = cc
        by_sets false h =
            let member_var = left_in (λ d. not (has_sets plan d)) c class (ap not h) member in
            let found = stands (λ (x : Variable). x.slot) (λ (x : Variable). x.characteristic) i c plan.vars
            (ap (list_any (λ d. d == c)) own_vars ∙ member_var) in
            var_missing found.0 found.1 found.2
          where
            var_missing : (k : ℕ) → k < length plan.vars
                → is_at (λ (x : Variable). x.slot) (λ (x : Variable). x.characteristic) i c (slice_get plan.vars k)
                ≡ true → ⊥
            var_missing k low at =
                let missing
                = none_found (λ v. is_var_of i c (slice_get plan.vars v)) 0 (length plan.vars) k neither.0 low in
                let same : 0 + k ≡ k = omega arith in
                var_is (slice_get plan.vars k) at (ap (λ v. is_var_of i c (slice_get plan.vars v)) (sym same) ∙ missing)
              where
                var_is : (o : Option Variable)
                    → is_at (λ (x : Variable). x.slot) (λ (x : Variable). x.characteristic) i c o ≡ true
                    → is_var_of i c o ≡ false → ⊥
                var_is None f g = cc
                var_is (Some x) f g = cc

    by : (o : Option ℕ) → characteristic_named plan i name ≡ o → named_if plan i o ≡ None
        → characteristic_named plan i name ≡ None
    by None f g = f
    by (Some c) f g = absurd (nothing c (found_in _ class c f) g)
