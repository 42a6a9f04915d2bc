-- What cells have after numbers are written into them.
use Rattle.std.proofs.Common.{◌≡◌, ℕ, zero, suc, ◌+◌, ◌<◌, ◌≤◌, ◌⊎◌, List, [], ◌∷◌, ◌++◌, length, take, drop, refl, ◌∙◌}
use Rattle.std.proofs.Common.{ap, inl, inr, arith}
use Rattle.std.specs.Prelude.{slice_set}
use Rattle.std.proofs.lemmas.List.{length-set}
use Rattle.vc_net_log.specs.Keeping.{written}

pub written_long : (at : ℕ) (ns cells : List ℕ) → length (written at ns cells) ≡ length cells
written_long at [] cells = refl
written_long at (n ∷ ns) cells = written_long (at + 1) ns (slice_set cells at n) ∙ length-set cells at n

-- a cell that is written changes no others
before : (at c n : ℕ) → (suc at < suc c) ⊎ (suc c + n ≤ suc at) → (at < c) ⊎ (c + n ≤ at)
before at c n (inl h) = inl (omega (arith, h))
before at c n (inr h) = inr (omega (arith, h))

set_elsewhere : (cells : List ℕ) (at x c n : ℕ) → (at < c) ⊎ (c + n ≤ at)
    → take n (drop c (slice_set cells at x)) ≡ take n (drop c cells)
set_elsewhere [] zero x c n h = refl
set_elsewhere [] (suc at) x c n h = refl
set_elsewhere (y ∷ ys) zero x zero zero h = refl
set_elsewhere (y ∷ ys) zero x zero (suc n) (inl h) = absurd (omega (arith, h))
set_elsewhere (y ∷ ys) zero x zero (suc n) (inr h) = absurd (omega (arith, h))
set_elsewhere (y ∷ ys) zero x (suc c) n h = refl
set_elsewhere (y ∷ ys) (suc at) x zero zero h = refl
set_elsewhere (y ∷ ys) (suc at) x zero (suc n) (inl h) = absurd (omega (arith, h))
set_elsewhere (y ∷ ys) (suc at) x zero (suc n) (inr h) =
    ap (λ zs. y ∷ zs) (set_elsewhere ys at x zero n (inr (omega (arith, h))))
set_elsewhere (y ∷ ys) (suc at) x (suc c) n h = set_elsewhere ys at x c n (before at c n h)

pub written_elsewhere : (at : ℕ) (ns cells : List ℕ) (c n : ℕ) → (at + length ns ≤ c) ⊎ (c + n ≤ at)
    → take n (drop c (written at ns cells)) ≡ take n (drop c cells)
written_elsewhere at [] cells c n h = refl
written_elsewhere at (m ∷ ns) cells c n (inl h) =
    written_elsewhere (at + 1) ns (slice_set cells at m) c n (inl (omega (arith, h)))
    ∙ set_elsewhere cells at m c n (inl (omega (arith, h)))
written_elsewhere at (m ∷ ns) cells c n (inr h) =
    written_elsewhere (at + 1) ns (slice_set cells at m) c n (inr (omega (arith, h)))
    ∙ set_elsewhere cells at m c n (inr h)

-- those that are written have the numbers
set_there : (cells : List ℕ) (at x : ℕ) → at < length cells → take 1 (drop at (slice_set cells at x)) ≡ x ∷ []
set_there [] at x h = absurd (omega (arith, h))
set_there (y ∷ ys) zero x h = refl
set_there (y ∷ ys) (suc at) x h = set_there ys at x (omega (arith, h))

first_apart : (n at : ℕ) (xs : List ℕ) → take (suc n) (drop at xs) ≡ take 1 (drop at xs) ++ take n (drop (suc at) xs)
first_apart zero zero [] = refl
first_apart (suc n) zero [] = refl
first_apart zero zero (x ∷ xs) = refl
first_apart (suc n) zero (x ∷ xs) = refl
first_apart zero (suc at) [] = refl
first_apart (suc n) (suc at) [] = refl
first_apart n (suc at) (x ∷ xs) = first_apart n at xs

pub written_there : (at : ℕ) (ns cells : List ℕ) → at + length ns ≤ length cells
    → take (length ns) (drop at (written at ns cells)) ≡ ns
written_there at [] cells h = refl
written_there at (m ∷ ns) cells h =
    let later = slice_set cells at m in
    let whole = written (at + 1) ns later in
    let long = length-set cells at m in
    let next : suc at ≡ at + 1 = omega arith in
    let low : at < length cells = omega (arith, h) in
    let one : take 1 (drop at whole) ≡ m ∷ []
    = written_elsewhere (at + 1) ns later at 1 (inr (omega arith)) ∙ set_there cells at m low in
    let rest : take (length ns) (drop (suc at) whole) ≡ ns
    = ap (λ k. take (length ns) (drop k whole)) next ∙ written_there (at + 1) ns later (omega (arith, h, long)) in
    first_apart (length ns) at whole
    ∙ (ap (λ xs. xs ++ take (length ns) (drop (suc at) whole)) one ∙ ap (λ xs. m ∷ xs) rest)
