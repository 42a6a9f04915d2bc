-- Elements that are changed one after the other.
use Rattle.std.proofs.Common.{◌≡◌, ℕ, zero, suc, ◌+◌, ◌<◌, ◌≤◌, List, [], ◌∷◌, length, refl, ◌∙◌, ap, arith}
use Rattle.std.specs.Prelude.{Option, None, Some, slice_get, slice_set}
use Rattle.vc_rule_table.specs.Noting.{changed, changed_by, each_changed}

pub changed_there : {A : Type 0} (f : A → A) (n : ℕ) (xs : List A) (x : A) → slice_get xs n ≡ Some x
    → slice_set xs n (f x) ≡ changed f n xs
changed_there f n [] x e = absurd (cc)
changed_there f zero (y ∷ xs) x e = let same : x ≡ y = cc in ap (λ z. f z ∷ xs) same
changed_there f (suc n) (y ∷ xs) x e = ap (λ zs. y ∷ zs) (changed_there f n xs x e)

pub changed_past : {A : Type 0} (f : A → A) (n : ℕ) (xs : List A) → slice_get xs n ≡ None → xs ≡ changed f n xs
changed_past f n [] e = refl
changed_past f zero (y ∷ xs) e = absurd (cc)
changed_past f (suc n) (y ∷ xs) e = ap (λ zs. y ∷ zs) (changed_past f n xs e)

pub changed_set : {A : Type 0} (y : A) (n : ℕ) (xs : List A) → n < length xs → slice_set xs n y ≡ changed (λ x. y) n xs
changed_set y n [] low = absurd (omega (arith, low))
changed_set y zero (x ∷ xs) low = refl
changed_set y (suc n) (x ∷ xs) low = ap (λ zs. x ∷ zs) (changed_set y n xs (omega (arith, low)))

pub changed_beyond : {A : Type 0} (f : A → A) (n : ℕ) (xs : List A) → length xs ≤ n → xs ≡ changed f n xs
changed_beyond f n [] past = refl
changed_beyond f zero (x ∷ xs) past = absurd (omega (arith, past))
changed_beyond f (suc n) (x ∷ xs) past = ap (λ zs. x ∷ zs) (changed_beyond f n xs (omega (arith, past)))

pub ruleset changing = (changed_there, changed_past, changed_set, changed_beyond)

-- the first so many have been changed, the others are to be
abbrev pub changed_from : {A B : Type 0} → (B → A → A) → ℕ → List B → List A → List A
changed_from f zero bs xs = each_changed f bs xs
changed_from f (suc n) [] xs = xs
changed_from f (suc n) (b ∷ bs) [] = []
changed_from f (suc n) (b ∷ bs) (x ∷ xs) = x ∷ changed_from f n bs xs

behind_first : {A B : Type 0} (f : B → A → A) (n : ℕ) (x : A) (xs : List A) (o : Option B)
    → changed_by f o (suc n) (x ∷ xs) ≡ x ∷ changed_by f o n xs
behind_first f n x xs None = refl
behind_first f n x xs (Some b) = refl

none_changed : {A B : Type 0} (f : B → A → A) (n : ℕ) (o : Option B) → changed_by f o n [] ≡ []
none_changed f n None = refl
none_changed f n (Some b) = refl

pub changed_next : {A B : Type 0} (f : B → A → A) (n : ℕ) (bs : List B) (xs : List A) → n < length bs
    → changed_from f (n + 1) bs (changed_by f (slice_get bs n) n xs) ≡ changed_from f n bs xs
changed_next f n [] xs low = absurd (omega (arith, low))
changed_next f zero (b ∷ bs) [] low = refl
changed_next f zero (b ∷ bs) (x ∷ xs) low = refl
changed_next f (suc n) (b ∷ bs) [] low =
    let next : suc n + 1 ≡ suc (n + 1) = omega arith in
    ap (λ k. changed_from f k (b ∷ bs) (changed_by f (slice_get bs n) (suc n) [])) next
    ∙ ap (changed_from f (suc (n + 1)) (b ∷ bs)) (none_changed f (suc n) (slice_get bs n))
changed_next f (suc n) (b ∷ bs) (x ∷ xs) low =
    let next : suc n + 1 ≡ suc (n + 1) = omega arith in
    ap (λ k. changed_from f k (b ∷ bs) (changed_by f (slice_get bs n) (suc n) (x ∷ xs))) next
    ∙ ap (changed_from f (suc (n + 1)) (b ∷ bs)) (behind_first f n x xs (slice_get bs n))
    ∙ ap (λ zs. x ∷ zs) (changed_next f n bs xs (omega (arith, low)))

pub changed_all : {A B : Type 0} (f : B → A → A) (n : ℕ) (bs : List B) (xs : List A) → length bs ≤ n
    → changed_from f n bs xs ≡ xs
changed_all f zero [] xs past = refl
changed_all f (suc n) [] xs past = refl
changed_all f zero (b ∷ bs) xs past = absurd (omega (arith, past))
changed_all f (suc n) (b ∷ bs) [] past = refl
changed_all f (suc n) (b ∷ bs) (x ∷ xs) past = ap (λ zs. x ∷ zs) (changed_all f n bs xs (omega (arith, past)))
