-- In a valid plan one characteristic alone has a name, in letters of either case.
use Rattle.std.proofs.Common.{◌≡◌, ℕ, zero, suc, ◌+◌, ◌-◌, Bool, true, false, cond, not, ◌||◌, List, [], ◌∷◌, map, refl}
use Rattle.std.proofs.Common.{sym, ap, ap₂, ◌∙◌, drop, arith, inl, inr}
use Rattle.std.specs.Prelude.{Option, None, Some, slice_get, nat_lt}
use Rattle.std.specs.Char.{to_ascii_lowercase, to_ascii_uppercase}
use Rattle.std.specs.List.{find, list_all, list_any}
use Rattle.std.proofs.lemmas.Bool.{and_parts, cases_lt, lt-ltb, le-ltb}
use Rattle.std.proofs.lemmas.Slice.Eq.{bytes_eq-Decides}
use Rattle.vc_value.specs.Names.{is_name}
use Rattle.vc_value.specs.Words.{same_bytes, same_ignoring_case}
use Rattle.vc_plan.specs.declared.plans.Characteristic.{Characteristic}
use Rattle.vc_plan.specs.declared.plans.Plan.{Plan}
use Rattle.vc_plan.specs.Orders.{are_apart}
use Rattle.vc_plan.specs.Spelling.{is_upper, is_upper_name}
use Rattle.vc_plan.specs.Valid.{IsValid}
use Rattle.vc_desk_names.specs.Meant.{is_called}

-- each element of a list passes that all pass
pub all_get : {X : Type 0} (p : X → Bool) (xs : List X) (k : ℕ) (x : X) → list_all p xs ≡ true
    → slice_get xs k ≡ Some x → p x ≡ true
all_get p [] k x all e = absurd (cc)
all_get p (y ∷ xs) zero x all e =
    let same : y ≡ x = cc in ap p (sym same) ∙ (and_parts (p y) (list_all p xs) all).0
all_get p (y ∷ xs) (suc k) x all e = all_get p xs k x (and_parts (p y) (list_all p xs) all).1 e

-- names in upper case that are the same but for the case of letters are the same
upper_lower : (c : ℕ) → to_ascii_uppercase (to_ascii_lowercase c) ≡ to_ascii_uppercase c
upper_lower c = elim (cases_lt c 65) [
  | inl low ↦ ap to_ascii_uppercase (ap (λ b. cond b c (cond (nat_lt c 91) (c + 32) c)) (lt-ltb c 65 low))
  | inr up ↦ elim (cases_lt c 91) [
    | inl letter ↦
        let lower : to_ascii_lowercase c ≡ c + 32 =
        ap₂ (λ (a b : Bool). cond a c (cond b (c + 32) c)) (le-ltb c 65 up) (lt-ltb c 91 letter) in
        let upper : to_ascii_uppercase (c + 32) ≡ (c + 32) - 32 =
        ap₂ (λ (a b : Bool). cond a (c + 32) (cond b ((c + 32) - 32) (c + 32)))
        (le-ltb (c + 32) 97 (omega (arith, up))) (lt-ltb (c + 32) 123 (omega (arith, letter))) in
        let back : (c + 32) - 32 ≡ c = omega arith in
        let same : to_ascii_uppercase c ≡ c =
        ap (λ b. cond b c (cond (nat_lt c 123) (c - 32) c)) (lt-ltb c 97 (omega (arith, letter))) in
        ap to_ascii_uppercase lower ∙ upper ∙ back ∙ sym same
    | inr past ↦
        ap to_ascii_uppercase (ap₂ (λ (a b : Bool). cond a c (cond b (c + 32) c)) (le-ltb c 65 up) (le-ltb c 91 past))
  ]
]

upper_again : (word : List ℕ) → map to_ascii_uppercase (map to_ascii_lowercase word) ≡ map to_ascii_uppercase word
upper_again [] = refl
upper_again (c ∷ word) = ap₂ (λ d ds. d ∷ ds) (upper_lower c) (upper_again word)

same_names : (a b : List ℕ) → is_upper_name a ≡ true → is_upper_name b ≡ true → same_ignoring_case a b ≡ true → a ≡ b
same_names a b is_a is_b same =
    let upper_a : map to_ascii_uppercase a ≡ a
    = (bytes_eq-Decides (map to_ascii_uppercase a) a).0 (and_parts (is_name a) (is_upper a) is_a).1 in
    let upper_b : map to_ascii_uppercase b ≡ b
    = (bytes_eq-Decides (map to_ascii_uppercase b) b).0 (and_parts (is_name b) (is_upper b) is_b).1 in
    let lower : map to_ascii_lowercase a ≡ map to_ascii_lowercase b
    = (bytes_eq-Decides (map to_ascii_lowercase a) (map to_ascii_lowercase b)).0 same in
    sym upper_a ∙ sym (upper_again a) ∙ ap (map to_ascii_uppercase) lower ∙ upper_again b ∙ upper_b

pub itself : (a : List ℕ) → same_bytes a a ≡ true
itself a = (bytes_eq-Decides a a).1 refl

pub alike : (a b : List ℕ) → a ≡ b → same_ignoring_case a b ≡ true
alike a b same =
    (bytes_eq-Decides (map to_ascii_lowercase a) (map to_ascii_lowercase b)).1 (ap (map to_ascii_lowercase) same)

-- elements that are apart have one place each
pub any_get : {X : Type 0} (p : X → Bool) (xs : List X) (k : ℕ) (x : X) → slice_get xs k ≡ Some x → p x ≡ true
    → list_any p xs ≡ true
any_get p [] k x e h = absurd (cc)
any_get p (y ∷ xs) zero x e h = let same : y ≡ x = cc in ap (λ b. b || list_any p xs) (ap p same ∙ h)
any_get p (y ∷ xs) (suc k) x e h = skip (p y) (any_get p xs k x e h)
  where
    skip : (b : Bool) → list_any p xs ≡ true → (b || list_any p xs) ≡ true
    skip true h = refl
    skip false h = h

pub apart_index : {X : Type 0} (same : X → X → Bool) (xs : List X) (i j : ℕ) (x y : X) → are_apart same xs ≡ true
    → slice_get xs i ≡ Some x → slice_get xs j ≡ Some y → same x y ≡ true → same y x ≡ true → i ≡ j
apart_index same [] i j x y apart e f g h = absurd (cc)
apart_index same (z ∷ xs) zero zero x y apart e f g h = refl
apart_index same (z ∷ xs) zero (suc j) x y apart e f g h =
    let first : z ≡ x = cc in
    let found = any_get (same z) xs j y f (ap (λ w. same w y) first ∙ g) in
    let none = (and_parts (not (list_any (same z) xs)) (are_apart same xs) apart).0 in
    let wrong : false ≡ true = sym (ap not found) ∙ none in absurd (cc)
apart_index same (z ∷ xs) (suc i) zero x y apart e f g h =
    let first : z ≡ y = cc in
    let found = any_get (same z) xs i x e (ap (λ w. same w x) first ∙ h) in
    let none = (and_parts (not (list_any (same z) xs)) (are_apart same xs) apart).0 in
    let wrong : false ≡ true = sym (ap not found) ∙ none in absurd (cc)
apart_index same (z ∷ xs) (suc i) (suc j) x y apart e f g h =
    ap suc (apart_index same xs i j x y (and_parts (not (list_any (same z) xs)) (are_apart same xs) apart).1 e f g h)

-- one characteristic alone has a name
pub only_named : (plan : Plan) → IsValid plan → (c : ℕ) (x : Characteristic) → slice_get plan.characteristics c ≡ Some x
    → (d : ℕ) → is_called x.name (slice_get plan.characteristics d) ≡ true → d ≡ c
only_named plan valid c x e d h = by (slice_get plan.characteristics d) refl h
  where
    by : (o : Option Characteristic) → slice_get plan.characteristics d ≡ o → is_called x.name o ≡ true → d ≡ c
    by None f g = absurd (cc)
    by (Some y) f g =
        let name_x = all_get (λ z. is_upper_name z.name) plan.characteristics c x valid.names e in
        let name_y = all_get (λ z. is_upper_name z.name) plan.characteristics d y valid.names f in
        let same : y.name ≡ x.name = same_names y.name x.name name_y name_x g in
        apart_index (λ a b. same_bytes a.name b.name) plan.characteristics d c y x valid.names_once f e
        (ap (same_bytes y.name) (sym same) ∙ itself y.name)
        (ap (λ n. same_bytes n y.name) (sym same) ∙ itself y.name)

-- so a name is that of one alone, whatever the case of its letters
one_called : (plan : Plan) → IsValid plan → (name : List ℕ) (c d : ℕ)
    → is_called name (slice_get plan.characteristics c) ≡ true
    → is_called name (slice_get plan.characteristics d) ≡ true → d ≡ c
one_called plan valid name c d g h =
    by (slice_get plan.characteristics c) (slice_get plan.characteristics d) refl refl g h
  where
    by : (o p : Option Characteristic) → slice_get plan.characteristics c ≡ o → slice_get plan.characteristics d ≡ p
        → is_called name o ≡ true → is_called name p ≡ true → d ≡ c
    by None p e f g h = absurd (cc)
    by (Some x) None e f g h = absurd (cc)
    by (Some x) (Some y) e f g h =
        let lower_x = (bytes_eq-Decides (map to_ascii_lowercase x.name) (map to_ascii_lowercase name)).0 g in
        let lower_y = (bytes_eq-Decides (map to_ascii_lowercase y.name) (map to_ascii_lowercase name)).0 h in
        only_named plan valid c x e d
        (ap (is_called x.name) f
        ∙ (bytes_eq-Decides (map to_ascii_lowercase y.name) (map to_ascii_lowercase x.name)).1
        (lower_y ∙ sym lower_x))

-- what is found passes
found_called : (plan : Plan) (name : List ℕ) (class : List ℕ) (c : ℕ)
    → find (λ d. is_called name (slice_get plan.characteristics d)) class ≡ Some c
    → is_called name (slice_get plan.characteristics c) ≡ true
found_called plan name [] c e = absurd (cc)
found_called plan name (d ∷ class) c e =
    by (is_called name (slice_get plan.characteristics d)) refl (found_called plan name class c) e
  where
    by : (b : Bool) → is_called name (slice_get plan.characteristics d) ≡ b
        → (find (λ d. is_called name (slice_get plan.characteristics d)) class ≡ Some c
        → is_called name (slice_get plan.characteristics c) ≡ true)
        → cond b (Some d) (find (λ d. is_called name (slice_get plan.characteristics d)) class) ≡ Some c
        → is_called name (slice_get plan.characteristics c) ≡ true
    by true h later same =
        let first : d ≡ c = cc in
        ap (λ n. is_called name (slice_get plan.characteristics n)) (sym first) ∙ h
    by false h later same = later same

-- and where one is found among the later ones of a class, it is the first of all
pub found_later : (plan : Plan) → IsValid plan → (name : List ℕ) (class : List ℕ) (k c : ℕ)
    → find (λ d. is_called name (slice_get plan.characteristics d)) (drop k class) ≡ Some c
    → find (λ d. is_called name (slice_get plan.characteristics d)) class ≡ Some c
found_later plan valid name class zero c e = e
found_later plan valid name [] (suc k) c e = absurd (cc)
found_later plan valid name (d ∷ class) (suc k) c e =
    by (is_called name (slice_get plan.characteristics d)) refl (found_later plan valid name class k c e)
    (found_called plan name class c (found_later plan valid name class k c e))
  where
    by : (b : Bool) → is_called name (slice_get plan.characteristics d) ≡ b
        → find (λ d. is_called name (slice_get plan.characteristics d)) class ≡ Some c
        → is_called name (slice_get plan.characteristics c) ≡ true
        → cond b (Some d) (find (λ d. is_called name (slice_get plan.characteristics d)) class) ≡ Some c
    by true h later called = ap Some (one_called plan valid name c d called h)
    by false h later called = later
