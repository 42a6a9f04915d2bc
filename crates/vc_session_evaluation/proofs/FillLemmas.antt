-- A list that is filled place by place: what is told for each place so far, and what was there from the place on.
use Rattle.std.proofs.Common.{◌≡◌, ℕ, zero, suc, ◌+◌, ◌<◌, List, [], ◌∷◌, ◌++◌, length, map, drop, refl, sym, ap, ◌∙◌}
use Rattle.std.proofs.Common.{arith}
use Rattle.std.specs.Prelude.{Option, None, option_map, slice_index_or, slice_set}
use Rattle.std.specs.List.{range_with_len}
use Rattle.std.proofs.lemmas.List.{length-set}
use Rattle.vc_plan.specs.Domains.{numbers_below}
use Rattle.vc_plan.specs.Entries.{Entries, entry_in, sources_in, written_at}

-- a list filled up to a place
pub record IsFilled {A : Type 0} (f : ℕ → A) (old list : List A) (i : ℕ) : Type 0 where
  pub so_far : list ≡ map f (range_with_len 0 i) ++ drop i old
  pub long : length list ≡ length old

put_next : {A : Type 0} (f : ℕ → A) (old : List A) (a i : ℕ) → i < length old
    → slice_set (map f (range_with_len a i) ++ drop i old) i (f (a + i))
    ≡ map f (range_with_len a (suc i)) ++ drop (suc i) old
put_next f [] a i h = absurd (omega arith)
put_next f (x ∷ old) a zero h = let same : a + 0 ≡ a = omega arith in ap (λ n. f n ∷ old) same
put_next f (x ∷ old) a (suc i) h =
    let same : a + suc i ≡ a + 1 + i = omega arith in
    ap (λ n. f a ∷ slice_set (map f (range_with_len (a + 1) i) ++ drop i old) i (f n)) same
    ∙ ap (λ rest. f a ∷ rest) (put_next f old (a + 1) i (omega arith))

pub filled_next : {A : Type 0} (f : ℕ → A) (old list after : List A) (x : A) (i : ℕ) → i < length old
    → IsFilled f old list i
    → x ≡ f i → after ≡ slice_set list i x → IsFilled f old after (i + 1)
filled_next f old list after x i h filled is set =
    let next : suc i ≡ i + 1 = omega arith in
    let here : 0 + i ≡ i = omega arith in
    record {
      so_far = set ∙ (ap (slice_set list i) (is ∙ ap f (sym here))
          ∙ (ap (λ xs. slice_set xs i (f (0 + i))) filled.so_far
          ∙ (put_next f old 0 i h ∙ ap (λ n. map f (range_with_len 0 n) ++ drop n old) next)));
      long = ap length set ∙ (length-set list i x ∙ filled.long);
    }

pub filled_none : {A : Type 0} (f : ℕ → A) (old : List A) → IsFilled f old old 0
filled_none f old = record { so_far = refl; long = refl }

nothing_left : {A : Type 0} (xs : List A) (n : ℕ) → length xs ≡ n → drop n xs ≡ []
nothing_left [] zero e = refl
nothing_left [] (suc n) e = refl
nothing_left (x ∷ xs) zero e = absurd (omega arith)
nothing_left (x ∷ xs) (suc n) e = nothing_left xs n (omega arith)

no_more : {A : Type 0} (xs : List A) → xs ++ [] ≡ xs
no_more [] = refl
no_more (x ∷ xs) = ap (λ rest. x ∷ rest) (no_more xs)

-- a list filled to its end
pub filled_all : {A : Type 0} (f : ℕ → A) (old list : List A) (n : ℕ) → IsFilled f old list n → length old ≡ n
    → list ≡ map f (numbers_below n)
filled_all f old list n filled e =
    filled.so_far ∙ ap (λ rest. map f (range_with_len 0 n) ++ rest) (nothing_left old n e)
    ∙ no_more (map f (range_with_len 0 n))

-- a list told place by place is itself
told_from : {A : Type 0} (xs : List (Option A)) (g : ℕ → Option A) (a : ℕ)
    → ((i : ℕ) → g (a + i) ≡ slice_index_or xs i None)
    → map g (range_with_len a (length xs)) ≡ xs
told_from [] g a is = refl
told_from (x ∷ xs) g a is =
    let here : a ≡ a + 0 = omega arith in
    let first : g a ≡ x = ap g here ∙ is 0 in
    let more = told_from xs g (a + 1) (λ i. let next : a + 1 + i ≡ a + suc i = omega arith in ap g next ∙ is (suc i)) in
    λ j. first j ∷ more j

pub told_is : {A : Type 0} (xs : List (Option A)) → map (λ i. slice_index_or xs i None) (numbers_below (length xs)) ≡ xs
told_is xs = told_from xs (λ i. slice_index_or xs i None) 0
    (λ i. let same : 0 + i ≡ i = omega arith in ap (λ n. slice_index_or xs n None) same)

-- a list filled with what another tells is that
pub filled_whole : {A : Type 0} (xs old list : List (Option A)) (n : ℕ)
    → IsFilled (λ i. slice_index_or xs i None) old list n
    → length old ≡ n → length xs ≡ n → list ≡ xs
filled_whole xs old list n filled e f =
    filled_all (λ i. slice_index_or xs i None) old list n filled e
    ∙ ap (λ m. map (λ i. slice_index_or xs i None) (numbers_below m)) (sym f) ∙ told_is xs

-- entries as sources, one by one
pub source_at : (entries : Entries) (v : ℕ)
    → slice_index_or (sources_in entries) v None ≡ option_map entry_in (written_at entries v)
source_at [] v = refl
source_at (written ∷ entries) zero = refl
source_at (written ∷ entries) (suc v) = source_at entries v
