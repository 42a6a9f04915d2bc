-- Sums of numbers that are told as far as they count.
use Rattle.std.proofs.Common.{◌≡◌, ℕ, ◌+◌, ◌≤◌, max, Bool, true, false, List, [], ◌∷◌, length, map, refl, sym, ◌∙◌, ap}
use Rattle.std.proofs.Common.{arith}
use Rattle.std.specs.List.{filter}
use Rattle.vc_plan.specs.Bounds.{greatest, only_if}
use Rattle.vc_net_places.specs.Cells.{total}
use Rattle.vc_net_bounds.specs.Capping.{capped}

-- a sum of what is told of two numbers is what is told of their sum
pub sum_first : (m n : ℕ) → capped (capped m + n) ≡ capped (m + n)
sum_first m n = omega arith

pub sum_second : (m n : ℕ) → capped (m + capped n) ≡ capped (m + n)
sum_second m n = omega arith

pub sum_of_capped : (m n : ℕ) → capped (capped m + capped n) ≡ capped (m + n)
sum_of_capped m n = omega arith

pub one_more : (n : ℕ) → capped (1 + capped n) ≡ capped (1 + n)
one_more n = omega arith

-- one number more, and none left
pub sum_next : (all sum n : ℕ) (ns : List ℕ) → capped (sum + total (n ∷ ns)) ≡ all
    → capped (capped (sum + n) + total ns) ≡ all
sum_next all sum n ns e = omega (arith, e)

pub sum_done : (all sum : ℕ) → sum ≤ 500_001 → capped (sum + 0) ≡ all → sum ≡ all
sum_done all sum few e = omega (arith, few, e)

pub capped_few : (n : ℕ) → capped n ≤ 500_001
capped_few n = omega arith

-- one row more
pub row_next : {X : Type 0} (has : X → Bool) (all count next : ℕ) (row : X) (rows : List X)
    → capped (count + length (filter has (row ∷ rows))) ≡ all → next ≡ capped (count + only_if (has row) 1)
    → capped (next + length (filter has rows)) ≡ all
row_next has all count next row rows e is = by (has row) refl
  where
    by : (b : Bool) → has row ≡ b → capped (next + length (filter has rows)) ≡ all
    by true h =
        let more : length (filter has (row ∷ rows)) ≡ 1 + length (filter has rows) = grind (arith, h) in
        let one : only_if (has row) 1 ≡ 1 = ap (λ t. only_if t 1) h in
        omega (arith, e, is, more, one)
    by false h =
        let same : length (filter has (row ∷ rows)) ≡ length (filter has rows) = grind (arith, h) in
        let none : only_if (has row) 1 ≡ 0 = ap (λ t. only_if t 1) h in
        omega (arith, e, is, same, none)

-- what is told where a test holds
pub capped_if : (test : Bool) (n : ℕ) → capped (only_if test n) ≡ only_if test (capped n)
capped_if true n = refl
capped_if false n = refl

-- the greatest of what is told is what is told of the greatest
pub capped_max : (m n : ℕ) → capped (max m n) ≡ max (capped m) (capped n)
capped_max m n = omega arith

pub capped_greatest : {X : Type 0} (f : X → ℕ) (xs : List X) → greatest (λ x. capped (f x)) xs ≡ capped (greatest f xs)
capped_greatest f [] = refl
capped_greatest f (x ∷ xs) =
    ap (λ n. max (capped (f x)) n) (capped_greatest f xs) ∙ sym (capped_max (f x) (greatest f xs))

-- all numbers together, where each is told as far as it counts
pub capped_total : (ns : List ℕ) → capped (total (map capped ns)) ≡ capped (total ns)
capped_total [] = refl
capped_total (n ∷ ns) = let rest = capped_total ns in omega (arith, rest)

-- few numbers are told exactly
pub exactly : (n : ℕ) → n ≤ 500_000 → capped n ≡ n
exactly n few = omega (arith, few)

pub exact_list : (ns : List ℕ) → total ns ≤ 500_000 → map capped ns ≡ ns
exact_list [] few = refl
exact_list (n ∷ ns) few =
    ap (λ m. m ∷ map capped ns) (exactly n (omega (arith, few)))
    ∙ ap (λ ms. n ∷ ms) (exact_list ns (omega (arith, few)))
