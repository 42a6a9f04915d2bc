-- Laws of lists under tests, and of lists without doubles.
use Rattle.std.proofs.Common.{◌≡◌, ℕ, zero, suc, Bool, true, false, cond, not, ◌&&◌, ◌||◌, ◌<◌, ◌≤◌, List, [], ◌∷◌}
use Rattle.std.proofs.Common.{◌++◌, length, map, flat_map}
use Rattle.std.proofs.Common.{Option, None, Some, refl, sym, ap, ◌∙◌, arith}
use Rattle.std.specs.Prelude.{option_map, slice_get}
use Rattle.std.specs.List.{filter, list_all, list_any}
use Rattle.std.proofs.lemmas.Bool.{and_parts, and_from, or_left, or_parts, or_from, or_right, not-true, not_from_false}
use Rattle.std.proofs.lemmas.List.Folds.{list_all-append, list_any-append}
use Rattle.std.proofs.lemmas.Option.{slice_get-map}
use Rattle.vc_plan.specs.Orders.{are_apart}

-- a test that follows from another
pub weaker : {X : Type 0} (p q : X → Bool) (xs : List X) → ((x : X) → p x ≡ true → q x ≡ true) → list_all p xs ≡ true
    → list_all q xs ≡ true
weaker p q [] of h = refl
weaker p q (x ∷ xs) of h =
    let parts
    = and_parts (p x) (list_all p xs) h in and_from (q x) (list_all q xs) (of x parts.0) (weaker p q xs of parts.1)

-- each passes where each one does
pub from_each : {X : Type 0} (p : X → Bool) (xs : List X) → ((k : ℕ) (x : X) → slice_get xs k ≡ Some x → p x ≡ true)
    → list_all p xs ≡ true
from_each p [] h = refl
from_each p (x ∷ xs) h = and_from (p x) (list_all p xs) (h zero x refl) (from_each p xs (λ k y e. h (suc k) y e))

pub all_joined : {X : Type 0} (p : X → Bool) (xs ys : List X) → list_all p xs ≡ true → list_all p ys ≡ true
    → list_all p (xs ++ ys) ≡ true
all_joined p xs ys a b = list_all-append p xs ys ∙ and_from (list_all p xs) (list_all p ys) a b

pub all_flat : {X Y : Type 0} (p : Y → Bool) (f : X → List Y) (xs : List X) → list_all (λ x. list_all p (f x)) xs ≡ true
    → list_all p (flat_map f xs) ≡ true
all_flat p f [] h = refl
all_flat p f (x ∷ xs) h =
    let parts = and_parts (list_all p (f x)) (list_all (λ x. list_all p (f x)) xs) h in
    all_joined p (f x) (flat_map f xs) parts.0 (all_flat p f xs parts.1)

any_mapped : {X Y : Type 0} (p : Y → Bool) (f : X → Y) (xs : List X)
    → list_any p (map f xs) ≡ list_any (λ x. p (f x)) xs
any_mapped p f [] = refl
any_mapped p f (x ∷ xs) = ap (λ b. p (f x) || b) (any_mapped p f xs)

-- without doubles by what is made of it
pub apart_mapped : {X Y : Type 0} (same : Y → Y → Bool) (f : X → Y) (xs : List X)
    → are_apart same (map f xs) ≡ are_apart (λ a b. same (f a) (f b)) xs
apart_mapped same f [] = refl
apart_mapped same f (x ∷ xs) =
    ap (λ b. not b && are_apart same (map f xs)) (any_mapped (same (f x)) f xs)
    ∙ ap (λ b. not (list_any (λ y. same (f x) (f y)) xs) && b) (apart_mapped same f xs)

-- none of a list passes where each fails, and the other way
pub none_from : {X : Type 0} (p : X → Bool) (xs : List X) → list_all (λ x. not (p x)) xs ≡ true
    → not (list_any p xs) ≡ true
none_from p [] h = refl
none_from p (x ∷ xs) h =
    let parts = and_parts (not (p x)) (list_all (λ x. not (p x)) xs) h in
    not_from_false (p x || list_any p xs)
    (or_from (p x) (list_any p xs) (not-true (p x) parts.0) (not-true (list_any p xs) (none_from p xs parts.1)))

pub each_fails : {X : Type 0} (p : X → Bool) (xs : List X) → not (list_any p xs) ≡ true
    → list_all (λ x. not (p x)) xs ≡ true
each_fails p [] h = refl
each_fails p (x ∷ xs) h =
    let parts = or_parts (p x) (list_any p xs) (not-true (p x || list_any p xs) h) in
    and_from (not (p x)) (list_all (λ x. not (p x)) xs) (not_from_false (p x) parts.0)
    (each_fails p xs (not_from_false (list_any p xs) parts.1))

-- what is left of a list passes the test by which it is
pub left_pass : {X : Type 0} (p : X → Bool) (xs : List X) → list_all p (filter p xs) ≡ true
left_pass p [] = refl
left_pass p (x ∷ xs) = by (p x) refl (left_pass p xs)
  where
    by : (b : Bool) → p x ≡ b → list_all p (filter p xs) ≡ true
        → list_all p (cond b (x ∷ filter p xs) (filter p xs)) ≡ true
    by true is more = and_from (p x) (list_all p (filter p xs)) is more
    by false is more = more

pub all_left : {X : Type 0} (p q : X → Bool) (xs : List X) → list_all p xs ≡ true → list_all p (filter q xs) ≡ true
all_left p q [] h = refl
all_left p q (x ∷ xs) h =
    let parts = and_parts (p x) (list_all p xs) h in by (q x) parts.0 (all_left p q xs parts.1)
  where
    by : (b : Bool) → p x ≡ true → list_all p (filter q xs) ≡ true
        → list_all p (cond b (x ∷ filter q xs) (filter q xs)) ≡ true
    by true here more = and_from (p x) (list_all p (filter q xs)) here more
    by false here more = more

pub apart_left : {X : Type 0} (same : X → X → Bool) (q : X → Bool) (xs : List X) → are_apart same xs ≡ true
    → are_apart same (filter q xs) ≡ true
apart_left same q [] h = refl
apart_left same q (x ∷ xs) h =
    let parts = and_parts (not (list_any (same x) xs)) (are_apart same xs) h in
    by (q x) parts.0 (apart_left same q xs parts.1)
  where
    by : (b : Bool) → not (list_any (same x) xs) ≡ true → are_apart same (filter q xs) ≡ true
        → are_apart same (cond b (x ∷ filter q xs) (filter q xs)) ≡ true
    by true here more =
        and_from (not (list_any (same x) (filter q xs))) (are_apart same (filter q xs))
        (none_from (same x) (filter q xs) (all_left (λ y. not (same x y)) q xs (each_fails (same x) xs here))) more
    by false here more = more

-- two lists without doubles, and none of the one in the other
pub apart_joined : {X : Type 0} (same : X → X → Bool) (xs ys : List X) → are_apart same xs ≡ true
    → are_apart same ys ≡ true
    → list_all (λ y. not (list_any (λ x. same x y) xs)) ys ≡ true → are_apart same (xs ++ ys) ≡ true
apart_joined same [] ys a b h = b
apart_joined same (x ∷ xs) ys a b h =
    let parts = and_parts (not (list_any (same x) xs)) (are_apart same xs) a in
    let of : (y : _) → not (same x y || list_any (λ x. same x y) xs) ≡ true
    → (not (same x y) ≡ true) × (not (list_any (λ x. same x y) xs) ≡ true) = λ y e.
    let both
    = or_parts (same x y) (list_any (λ x. same x y) xs) (not-true (same x y || list_any (λ x. same x y) xs) e) in
    (not_from_false (same x y) both.0, not_from_false (list_any (λ x. same x y) xs) both.1) in
    let here = none_from (same x) ys
    (weaker (λ y. not (same x y || list_any (λ x. same x y) xs)) (λ y. not (same x y)) ys (λ y e. (of y e).0) h) in
    let none : list_any (same x) (xs ++ ys) ≡ false =
    list_any-append (same x) xs ys
    ∙ or_from (list_any (same x) xs) (list_any (same x) ys) (not-true (list_any (same x) xs) parts.0)
    (not-true (list_any (same x) ys) here) in
    and_from (not (list_any (same x) (xs ++ ys))) (are_apart same (xs ++ ys))
    (not_from_false (list_any (same x) (xs ++ ys)) none)
    (apart_joined same xs ys parts.1 b
    (weaker (λ y. not (same x y || list_any (λ x. same x y) xs)) (λ y. not (list_any (λ x. same x y) xs)) ys
    (λ y e. (of y e).1) h))

-- what is made of a list has something at a number of which the list has it
pub made_from : {X Y : Type 0} (f : X → Y) (xs : List X) (ys : List Y) → map f xs ≡ ys → (n : ℕ) (y : Y)
    → slice_get ys n ≡ Some y
    → (x : X) × (slice_get xs n ≡ Some x) × (f x ≡ y)
made_from {X = X} {Y = Y} f xs ys e n y at = by (slice_get xs n) refl
  where
    whole : slice_get (map f xs) n ≡ Some y
    whole = ap (λ l. slice_get l n) e ∙ at

    by : (o : Option X) → slice_get xs n ≡ o → (x : X) × (slice_get xs n ≡ Some x) × (f x ≡ y)
    by None h = absurd (let gone : None ≡ Some y = sym (ap (option_map f) h) ∙ sym (slice_get-map f xs n) ∙ whole in cc)
    by (Some x) h =
        let same : Some (f x) ≡ Some y = sym (ap (option_map f) h) ∙ sym (slice_get-map f xs n) ∙ whole in (x, h, cc)

-- what isn't there is past the end
pub none_past : {X : Type 0} (xs : List X) (k : ℕ) → slice_get xs k ≡ None → length xs ≤ k
none_past [] k e = omega arith
none_past (x ∷ xs) zero e = absurd (cc)
none_past (x ∷ xs) (suc k) e = let more = none_past xs k e in omega (arith, more)

-- what is below the end is there
pub there : {X : Type 0} (xs : List X) (k : ℕ) → k < length xs → (x : X) × (slice_get xs k ≡ Some x)
there [] k h = absurd (omega (arith, h))
there (x ∷ xs) zero h = (x, refl)
there (x ∷ xs) (suc k) h = there xs k (omega (arith, h))

-- one that is there passes what all pass
pub passes_there : {X : Type 0} (p : X → Bool) (xs : List X) (k : ℕ) (x : X) → list_all p xs ≡ true
    → slice_get xs k ≡ Some x → p x ≡ true
passes_there p [] k x h e = absurd (cc)
passes_there p (y ∷ xs) zero x h e =
    let same : y ≡ x = cc in ap p (sym same) ∙ (and_parts (p y) (list_all p xs) h).0
passes_there p (y ∷ xs) (suc k) x h e = passes_there p xs k x (and_parts (p y) (list_all p xs) h).1 e

-- one that is there and passes, and the other way
pub any_there : {X : Type 0} (test : X → Bool) (xs : List X) (k : ℕ) (x : X) → slice_get xs k ≡ Some x → test x ≡ true
    → list_any test xs ≡ true
any_there test [] k x e h = absurd (cc)
any_there test (y ∷ xs) zero x e h = let same : y ≡ x = cc in or_left (test y) (list_any test xs) (ap test same ∙ h)
any_there test (y ∷ xs) (suc k) x e h = or_right (test y) (list_any test xs) (any_there test xs k x e h)

pub some_there : {X : Type 0} (test : X → Bool) (xs : List X) → list_any test xs ≡ true
    → (n : ℕ) × (x : X) × (slice_get xs n ≡ Some x) × (test x ≡ true)
some_there test [] h = absurd (cc)
some_there {X = X} test (y ∷ xs) h = by (test y) refl h (λ k. some_there test xs k)
  where
    by : (b : Bool) → test y ≡ b → (b || list_any test xs) ≡ true
        → (list_any test xs ≡ true → (n : ℕ) × (x : X) × (slice_get xs n ≡ Some x) × (test x ≡ true))
        → (n : ℕ) × (x : X) × (slice_get (y ∷ xs) n ≡ Some x) × (test x ≡ true)
    by true t k later = (0, y, refl, t)
    by false t k later = let found = later k in (suc found.0, found.1, found.2, found.3)
