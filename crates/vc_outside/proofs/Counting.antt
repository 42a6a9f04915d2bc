-- How the count of the numbers at most a limit grows with the limit.
use Rattle.std.proofs.Common.{◌≡◌, ℕ, zero, suc, ◌+◌, ◌<◌, ◌≤◌, Bool, true, false, ◌||◌, List, [], ◌∷◌, length, arith}
use Rattle.std.proofs.Common.{slice_index_or, refl}
use Rattle.std.specs.Prelude.{◌==◌}
use Rattle.std.specs.List.{list_any}
use Rattle.std.proofs.lemmas.Bool.Decides.{nat_tests}
use Rattle.vc_outside.specs.Faults.{count_upto}

pub count_upto-le : (numbers : List ℕ) (n m : ℕ) → n ≤ m → count_upto n numbers ≤ count_upto m numbers
count_upto-le [] n m below = omega arith
count_upto-le (x ∷ xs) n m below = let rest = count_upto-le xs n m below in grind (arith, nat_tests)

pub count_upto-lt : (numbers : List ℕ) (n m : ℕ) → n < m → (k : ℕ) → k < length numbers → slice_index_or numbers k m ≡ m
    → count_upto n numbers < count_upto m numbers
count_upto-lt [] n m below k inside is = absurd (omega arith)
count_upto-lt (x ∷ xs) n m below zero inside is = let rest = count_upto-le xs n m (omega arith) in let here : x
    ≡ m = is in grind (arith, nat_tests)
count_upto-lt (x ∷ xs) n m below (suc k) inside is = let rest = count_upto-lt xs n m below k (omega arith) is in
    grind (arith, nat_tests)

-- a number that isn't among them adds nothing
pub count_upto-same : (numbers : List ℕ) (n : ℕ) → list_any (λ number. number == n + 1) numbers ≡ false
    → count_upto (n + 1) numbers ≡ count_upto n numbers
count_upto-same [] n none = refl
count_upto-same (x ∷ xs) n none =
    let here : (x == n + 1) ≡ false = first (x == n + 1) (list_any (λ number. number == n + 1) xs) none in
    let rest = count_upto-same xs n (second (x == n + 1) (list_any (λ number. number == n + 1) xs) none) in
    grind (arith, nat_tests)
  where
    first : (a b : Bool) → (a || b) ≡ false → a ≡ false
    first true b e = e
    first false b e = refl

    second : (a b : Bool) → (a || b) ≡ false → b ≡ false
    second true b e = absurd (cc)
    second false b e = e
