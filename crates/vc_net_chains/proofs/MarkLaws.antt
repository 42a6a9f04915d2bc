-- Flags that are set from the last step back are of just the steps that an ending needs.
use Rattle.std.proofs.Common.{◌≡◌, ◌≢◌, ℕ, zero, suc, ◌+◌, ◌-◌, ◌<◌, ◌≤◌, Bool, true, false, ◌||◌, List, [], ◌∷◌, ◌++◌}
use Rattle.std.proofs.Common.{length, take, drop, replicate, refl, sym, ◌∙◌, ap, arith, append-nil}
use Rattle.std.proofs.Common.{append_assoc}
use Rattle.std.specs.Prelude.{Some, ◌==◌, if◌then◌else◌, slice_get, slice_index_or, slice_set}
use Rattle.std.proofs.lemmas.Bool.{eqb-true, eqb-false, ne_eqb}
use Rattle.std.proofs.lemmas.List.{length-take-le}
use Rattle.vc_base.specs.Chains.{is_among}
use Rattle.vc_plan.specs.declared.atoms.Step.{Step}
use Rattle.vc_plan_reasons.specs.Trimming.{is_cited_by, needed}
use Rattle.vc_net_log.specs.Numbers.{premises_in, premises_of}
use Rattle.vc_net_chains.specs.Marking.{marked, marked_each, with_all_cited, with_cited}

or_false : (b : Bool) → (b || false) ≡ b
or_false true = refl
or_false false = refl

either : (a b c : Bool) → ((a || (b || false)) || c) ≡ (a || (b || c))
either true b c = refl
either false true c = refl
either false false c = refl

-- no number marks nothing, and numbers mark one after the other
pub marked_none : (n m : ℕ) (flags : List Bool) → marked n m [] flags ≡ flags
marked_none n zero flags = refl
marked_none n (suc m) [] = refl
marked_none n (suc m) (flag ∷ flags) =
    ap (λ f. f ∷ marked (suc n) m [] flags) (or_false flag) ∙ ap (λ fs. flag ∷ fs) (marked_none (suc n) m flags)

pub marked_next : (n m k : ℕ) (more : List ℕ) (flags : List Bool)
    → marked n m more (marked n m (k ∷ []) flags) ≡ marked n m (k ∷ more) flags
marked_next n zero k more flags = refl
marked_next n (suc m) k more [] = refl
marked_next n (suc m) k more (flag ∷ flags) =
    ap (λ f. f ∷ marked (suc n) m more (marked (suc n) m (k ∷ []) flags)) (either flag (k == n) (is_among n more))
    ∙ ap (λ fs. (flag || ((k == n) || is_among n more)) ∷ fs) (marked_next (suc n) m k more flags)

pub length_marked : (n m : ℕ) (numbers : List ℕ) (flags : List Bool) → length (marked n m numbers flags) ≡ length flags
length_marked n zero numbers flags = refl
length_marked n (suc m) numbers [] = refl
length_marked n (suc m) numbers (flag ∷ flags) = ap (λ k. suc k) (length_marked (suc n) m numbers flags)

pub each_marked : (m : ℕ) (numbers : List ℕ) (flags : List Bool)
    → marked_each m numbers flags ≡ marked 1 m numbers flags
each_marked m [] flags = sym (marked_none 1 m flags)
each_marked m (k ∷ numbers) flags =
    each_marked m numbers (marked 1 m (k ∷ []) flags) ∙ marked_next 1 m k numbers flags

-- a number that isn't one of the first flags' marks nothing
pub unmarked : (n m k : ℕ) (flags : List Bool) → ((j : ℕ) → n ≤ j → j < n + m → k ≢ j)
    → marked n m (k ∷ []) flags ≡ flags
unmarked n zero k flags other = refl
unmarked n (suc m) k [] other = refl
unmarked n (suc m) k (flag ∷ flags) other =
    let differs : (k == n) ≡ false = ne_eqb k n (other n (omega arith) (omega arith)) in
    ap (λ b. (flag || (b || false)) ∷ marked (suc n) m (k ∷ []) flags) differs
    ∙ (ap (λ f. f ∷ marked (suc n) m (k ∷ []) flags) (or_false flag)
    ∙ ap (λ fs. flag ∷ fs)
    (unmarked (suc n) m k flags (λ j low high. other j (omega (arith, low)) (omega (arith, high)))))

-- else it marks its flag
pub marked_one : (n m k : ℕ) (flags : List Bool) → n ≤ k → k < n + m → m ≤ length flags
    → slice_set flags (k - n) true ≡ marked n m (k ∷ []) flags
marked_one n zero k flags low high long = absurd (omega (arith, low, high))
marked_one n (suc m) k [] low high long = absurd (omega (arith, long))
marked_one n (suc m) k (flag ∷ flags) low high long =
    by (k == n) refl
    (λ other. marked_one (suc n) m k flags (omega (arith, low, other)) (omega (arith, high)) (omega (arith, long)))
  where
    past : (b : Bool) → (b || (true || false)) ≡ true
    past true = refl
    past false = refl

    by : (b : Bool) → (k == n) ≡ b
        → (k ≢ n → slice_set flags (k - suc n) true ≡ marked (suc n) m (k ∷ []) flags)
        → slice_set (flag ∷ flags) (k - n) true ≡ ((flag || (b || false)) ∷ marked (suc n) m (k ∷ []) flags)
    by true e later =
        let same : k ≡ n = eqb-true k n e in
        let none : k - n ≡ 0 = omega (arith, same) in
        ap (λ i. slice_set (flag ∷ flags) i true) none
        ∙ (ap (λ b. b ∷ flags) (sym (past flag))
        ∙ ap (λ fs. (flag || (true || false)) ∷ fs)
        (sym (unmarked (suc n) m k flags (λ j more high is. omega (arith, same, more, is)))))
    by false e later =
        let other = eqb-false k n e in
        let one : k - n ≡ suc (k - suc n) = omega (arith, low, other) in
        ap (λ i. slice_set (flag ∷ flags) i true) one
        ∙ (ap (λ fs. flag ∷ fs) (later other)
        ∙ ap (λ f. f ∷ marked (suc n) m (k ∷ []) flags) (sym (or_false flag)))

-- marks of the first flags leave those behind them
marked_front : (n m : ℕ) (numbers : List ℕ) (first rest : List Bool) → length first ≡ m
    → marked n m numbers (first ++ rest) ≡ marked n m numbers first ++ rest
marked_front n zero numbers [] rest e = refl
marked_front n zero numbers (flag ∷ first) rest e = absurd (omega (arith, e))
marked_front n (suc m) numbers [] rest e = absurd (omega (arith, e))
marked_front n (suc m) numbers (flag ∷ first) rest e =
    ap (λ fs. (flag || is_among n numbers) ∷ fs) (marked_front (suc n) m numbers first rest (omega (arith, e)))

-- of each step before some later ones, whether the ending or a needed one of those cites it
abbrev asks : List ℕ → List Step → List Bool → ℕ → ℕ → List Bool
asks ending later flags n zero = []
asks ending later flags n (suc m) =
    (is_among n ending || is_cited_by n later flags) ∷ asks ending later flags (suc n) m

length_asks : (ending : List ℕ) (later : List Step) (flags : List Bool) (n m : ℕ)
    → length (asks ending later flags n m) ≡ m
length_asks ending later flags n zero = refl
length_asks ending later flags n (suc m) = ap (λ k. suc k) (length_asks ending later flags (suc n) m)

asks_last : (ending : List ℕ) (later : List Step) (flags : List Bool) (n m k : ℕ) → k ≡ n + m
    → asks ending later flags n (suc m)
    ≡ asks ending later flags n m ++ (is_among k ending || is_cited_by k later flags) ∷ []
asks_last ending later flags n zero k e =
    let same : n ≡ k = omega (arith, e) in ap (λ j. (is_among j ending || is_cited_by j later flags) ∷ []) same
asks_last ending later flags n (suc m) k e =
    ap (λ fs. (is_among n ending || is_cited_by n later flags) ∷ fs)
    (asks_last ending later flags (suc n) m k (omega (arith, e)))

-- at first only the ending asks
asks_first : (ending : List ℕ) (n m : ℕ) → asks ending [] [] n m ≡ marked n m ending (replicate m false)
asks_first ending n zero = refl
asks_first ending n (suc m) =
    ap (λ f. f ∷ asks ending [] [] (suc n) m) (or_false (is_among n ending))
    ∙ ap (λ fs. is_among n ending ∷ fs) (asks_first ending (suc n) m)

-- then a step asks for what it cites, if it is needed
asks_more : (ending : List ℕ) (step : Step) (later : List Step) (flags : List Bool) (n m : ℕ)
    → marked n m step.premises (asks ending later flags n m) ≡ asks ending (step ∷ later) (true ∷ flags) n m
asks_more ending step later flags n zero = refl
asks_more ending step later flags n (suc m) =
    ap (λ f. f ∷ marked (suc n) m step.premises (asks ending later flags (suc n) m))
    (swapped (is_among n ending) (is_cited_by n later flags) (is_among n step.premises))
    ∙ ap (λ fs. (is_among n ending || (is_among n step.premises || is_cited_by n later flags)) ∷ fs)
    (asks_more ending step later flags (suc n) m)
  where
    swapped : (a b c : Bool) → ((a || b) || c) ≡ (a || (c || b))
    swapped true b c = refl
    swapped false true true = refl
    swapped false true false = refl
    swapped false false true = refl
    swapped false false false = refl

asks_same : (ending : List ℕ) (step : Step) (later : List Step) (flags : List Bool) (n m : ℕ)
    → asks ending later flags n m ≡ asks ending (step ∷ later) (false ∷ flags) n m
asks_same ending step later flags n zero = refl
asks_same ending step later flags n (suc m) =
    ap (λ fs. (is_among n ending || is_cited_by n later flags) ∷ fs) (asks_same ending step later flags (suc n) m)

flag_there : (first rest : List Bool) (flag : Bool) (k : ℕ) → length first ≡ k
    → slice_index_or (first ++ flag ∷ rest) k false ≡ flag
flag_there [] rest flag zero e = refl
flag_there [] rest flag (suc k) e = absurd (omega (arith, e))
flag_there (other ∷ first) rest flag zero e = absurd (omega (arith, e))
flag_there (other ∷ first) rest flag (suc k) e = flag_there first rest flag k (omega (arith, e))

-- one step back
one_back : (ending : List ℕ) (steps later : List Step) (step : Step) (flags : List Bool) (k : ℕ)
    → slice_get steps k ≡ Some step
    → with_cited steps k (asks ending later flags 1 (suc k) ++ flags)
    ≡ asks ending (step ∷ later) ((is_among (suc k) ending || is_cited_by (suc k) later flags) ∷ flags) 1 k
    ++ (is_among (suc k) ending || is_cited_by (suc k) later flags) ∷ flags
one_back ending steps later step flags k found =
    ap (with_cited steps k) all
    ∙ (ap (λ b. if b then marked_each k (premises_of steps k) (before ++ is ∷ flags) else (before ++ is ∷ flags))
    (flag_there before flags is k (length_asks ending later flags 1 k))
    ∙ by is)
  where
    before : List Bool
    before = asks ending later flags 1 k

    is : Bool
    is = is_among (suc k) ending || is_cited_by (suc k) later flags

    all : asks ending later flags 1 (suc k) ++ flags ≡ before ++ is ∷ flags
    all =
        ap (λ fs. fs ++ flags) (asks_last ending later flags 1 k (suc k) (omega arith))
        ∙ append_assoc before (is ∷ []) flags

    by : (b : Bool) → (if b then marked_each k (premises_of steps k) (before ++ b ∷ flags) else (before ++ b ∷ flags))
        ≡ asks ending (step ∷ later) (b ∷ flags) 1 k ++ b ∷ flags
    by true =
        each_marked k (premises_of steps k) (before ++ true ∷ flags)
        ∙ marked_front 1 k (premises_of steps k) before (true ∷ flags) (length_asks ending later flags 1 k)
        ∙ (ap (λ o. marked 1 k (premises_in o) before ++ true ∷ flags) found
        ∙ ap (λ fs. fs ++ true ∷ flags) (asks_more ending step later flags 1 k))
    by false = ap (λ fs. fs ++ false ∷ flags) (asks_same ending step later flags 1 k)

-- lists by place
step_there : (steps : List Step) (k : ℕ) → k < length steps
    → (step : Step) × (slice_get steps k ≡ Some step) × (step ∷ drop (suc k) steps ≡ drop k steps)
step_there [] k low = absurd (omega (arith, low))
step_there (step ∷ steps) zero low = (step, refl, refl)
step_there (step ∷ steps) (suc k) low = step_there steps k (omega (arith, low))

none_behind : (steps : List Step) (k : ℕ) → length steps ≤ k → drop k steps ≡ []
none_behind [] zero low = refl
none_behind [] (suc k) low = refl
none_behind (step ∷ steps) zero low = absurd (omega (arith, low))
none_behind (step ∷ steps) (suc k) low = none_behind steps k (omega (arith, low))

pub in_front : (steps : List Step) (count k : ℕ) → k < count → slice_get (take count steps) k ≡ slice_get steps k
in_front [] zero k low = absurd (omega (arith, low))
in_front [] (suc count) k low = refl
in_front (step ∷ steps) zero k low = absurd (omega (arith, low))
in_front (step ∷ steps) (suc count) zero low = refl
in_front (step ∷ steps) (suc count) (suc k) low = in_front steps count k (omega (arith, low))

-- from the last step back to the first
passes : (ending : List ℕ) (steps : List Step) (k : ℕ) → k ≤ length steps
    → with_all_cited steps k
    (asks ending (drop k steps) (needed ending (suc k) (drop k steps)) 1 k ++ needed ending (suc k) (drop k steps))
    ≡ needed ending 1 steps
passes ending [] zero low = refl
passes ending (step ∷ steps) zero low = refl
passes ending steps (suc k) low =
    let at = step_there steps k (omega (arith, low)) in
    let later = drop (suc k) steps in
    ap (with_all_cited steps k) (one_back ending steps later at.0 (needed ending (suc (suc k)) later) k at.1)
    ∙ (ap (λ rest. with_all_cited steps k
    (asks ending rest (needed ending (suc k) rest) 1 k ++ needed ending (suc k) rest)) at.2
    ∙ passes ending steps k (omega (arith, low)))

-- steps behind those that are asked for don't matter
passes_alike : (steps others : List Step) (k : ℕ) (flags : List Bool)
    → ((j : ℕ) → j < k → slice_get steps j ≡ slice_get others j)
    → with_all_cited steps k flags ≡ with_all_cited others k flags
passes_alike steps others zero flags same = refl
passes_alike steps others (suc k) flags same =
    ap (λ o. with_all_cited steps k
    (if slice_index_or flags k false then marked_each k (premises_in o) flags else flags)) (same k (omega arith))
    ∙ passes_alike steps others k (with_cited others k flags) (λ j low. same j (omega (arith, low)))

-- the last of some steps is asked first
pub last_cited_first : (steps : List Step) (n : ℕ) (flags : List Bool) → 0 < n
    → with_all_cited steps n flags ≡ with_all_cited steps (n - 1) (with_cited steps (n - 1) flags)
last_cited_first steps zero flags some = absurd (omega (arith, some))
last_cited_first steps (suc n) flags some =
    let is : n ≡ suc n - 1 = omega arith in
    ap (λ k. with_all_cited steps k (with_cited steps k flags)) is

pub needed_found : (ending : List ℕ) (steps : List Step) (count : ℕ) → count ≤ length steps
    → with_all_cited steps count (marked_each count ending (replicate count false)) ≡ needed ending 1 (take count steps)
needed_found ending steps count low =
    ap (with_all_cited steps count) (each_marked count ending (replicate count false)) ∙
    (let front = take count steps in
    let long : length front ≡ count = length-take-le count steps low in
    let none : drop count front ≡ [] = none_behind front count (omega (arith, long)) in
    ap (with_all_cited steps count) (sym (asks_first ending 1 count) ∙ sym (append-nil (asks ending [] [] 1 count)))
    ∙ passes_alike steps front count (asks ending [] [] 1 count ++ []) (λ j inside. sym (in_front steps count j inside))
    ∙ ap (λ rest. with_all_cited front count
    (asks ending rest (needed ending (suc count) rest) 1 count ++ needed ending (suc count) rest)) (sym none)
    ∙ passes ending front count (omega (arith, long)))
