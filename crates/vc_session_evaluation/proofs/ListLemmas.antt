-- Lists of which one element is put in the place of another.
use Rattle.std.proofs.Common.{◌≡◌, ℕ, zero, suc, ◌+◌, ◌<◌, ◌≤◌, List, [], ◌∷◌, ◌++◌, length, map, take, refl, sym}
use Rattle.std.proofs.Common.{ap, ◌∙◌, arith}
use Rattle.std.specs.Prelude.{Some, slice_get, slice_index_or, slice_set}
use Rattle.std.specs.List.{AllByRecursion, range_with_len}
use Rattle.vc_plan.specs.Domains.{numbers_below}
use Rattle.vc_plan.specs.Seen.{Seen, seen_of}
use Rattle.vc_session_stages.specs.Stages.{seen_at}

-- up to the place the list is as before
pub take_set : {A : Type 0} (xs : List A) (k : ℕ) (x : A) → k < length xs
    → take (suc k) (slice_set xs k x) ≡ take k xs ++ x ∷ []
take_set [] k x h = absurd (omega arith)
take_set (y ∷ xs) zero x h = refl
take_set (y ∷ xs) (suc k) x h = ap (λ rest. y ∷ rest) (take_set xs k x (omega arith))

-- and at it stands what was put there
pub set_there : {A : Type 0} (xs : List A) (k : ℕ) (x : A) → k < length xs → slice_get (slice_set xs k x) k ≡ Some x
set_there [] k x h = absurd (omega arith)
set_there (y ∷ xs) zero x h = refl
set_there (y ∷ xs) (suc k) x h = set_there xs k x (omega arith)

pub all_set : {A : Type 0} (P : A → Type 0) (xs : List A) (k : ℕ) (x : A) → AllByRecursion P xs → P x
    → AllByRecursion P (slice_set xs k x)
all_set P [] k x all one = tt
all_set P (y ∷ xs) zero x all one = (one, all.1)
all_set P (y ∷ xs) (suc k) x all one = (all.0, all_set P xs k x all.1 one)

-- what is seen below the place doesn't change
nothing : {A : Type 0} (xs : List A) (n : ℕ) → length xs ≡ 0 → take n xs ≡ xs
nothing [] zero e = refl
nothing [] (suc n) e = refl
nothing (x ∷ xs) n e = absurd (omega arith)

pub seen_below : {A : Type 0} (f : A → Seen) (xs : List A) (k : ℕ) (x : A) (d : ℕ) → d < k
    → seen_at (map f (slice_set xs k x)) d ≡ seen_at (map f (take k xs)) d
seen_below f [] k x d h = ap (λ all. seen_at (map f all) d) (sym (nothing [] k refl))
seen_below f (y ∷ xs) zero x d h = absurd (omega arith)
seen_below f (y ∷ xs) (suc k) x zero h = refl
seen_below f (y ∷ xs) (suc k) x (suc d) h = seen_below f xs k x d (omega arith)

-- what is seen at a place
pub seen_there : {A : Type 0} (f : A → Seen) (xs : List A) (k : ℕ) (x : A) → slice_get xs k ≡ Some x
    → seen_at (map f xs) k ≡ f x
seen_there f [] k x e = absurd (cc e)
seen_there f (y ∷ xs) zero x e = let same : y ≡ x = cc in ap f same
seen_there f (y ∷ xs) (suc k) x e = seen_there f xs k x e

pub seen_past : {A : Type 0} (f : A → Seen) (xs : List A) (k : ℕ) → length xs ≤ k → seen_at (map f xs) k ≡ seen_of []
seen_past f [] k h = refl
seen_past f (y ∷ xs) zero h = absurd (omega arith)
seen_past f (y ∷ xs) (suc k) h = seen_past f xs k (omega arith)

-- what is told for each number of a range, at one
pub told_at : {A : Type 0} (f : ℕ → A) (a n i : ℕ) (d : A) → i < n
    → slice_index_or (map f (range_with_len a n)) i d ≡ f (a + i)
told_at f a zero i d h = absurd (omega arith)
told_at f a (suc n) zero d h = let same : a ≡ a + 0 = omega arith in ap f same
told_at f a (suc n) (suc i) d h =
    let same : a + 1 + i ≡ a + suc i = omega arith in
    told_at f (a + 1) n i d (omega arith) ∙ ap f same

pub told_below : {A : Type 0} (f : ℕ → A) (n i : ℕ) (d : A) → i < n → slice_index_or (map f (numbers_below n)) i d ≡ f i
told_below f n i d h = let same : 0 + i ≡ i = omega arith in told_at f 0 n i d h ∙ ap f same

-- from a place on a list is as before
abbrev pub StayFrom : {A : Type 0} → ℕ → List A → List A → Type 0
StayFrom k old new = (i : ℕ) → k ≤ i → slice_get new i ≡ slice_get old i

get_elsewhere : {A : Type 0} (xs : List A) (k : ℕ) (x : A) (i : ℕ) → k < i
    → slice_get (slice_set xs k x) i ≡ slice_get xs i
get_elsewhere [] k x i h = refl
get_elsewhere (y ∷ xs) zero x zero h = absurd (omega (arith, h))
get_elsewhere (y ∷ xs) zero x (suc i) h = refl
get_elsewhere (y ∷ xs) (suc k) x zero h = absurd (omega (arith, h))
get_elsewhere (y ∷ xs) (suc k) x (suc i) h = get_elsewhere xs k x i (omega (arith, h))

pub stay_next : {A : Type 0} (old mid new : List A) (k : ℕ) (x : A) → StayFrom k old mid → new ≡ slice_set mid k x
    → StayFrom (k + 1) old new
stay_next old mid new k x stay is i h =
    ap (λ xs. slice_get xs i) is ∙ get_elsewhere mid k x i (omega (arith, h)) ∙ stay i (omega (arith, h))
