-- Numbers that are met one after another are those met, each once.
use Rattle.std.proofs.Common.{◌≡◌, ℕ, Bool, true, false, cond, not, ◌&&◌, ◌||◌, ◌==◌, List, [], ◌∷◌, ◌++◌, refl, sym}
use Rattle.std.proofs.Common.{ap, ◌∙◌, arith}
use Rattle.std.specs.List.{filter, list_any}
use Rattle.std.proofs.lemmas.Bool.Decides.{nat_tests}
use Rattle.std.proofs.lemmas.List.{append_assoc, append-nil}
use Rattle.std.proofs.lemmas.List.Folds.{list_any-append}
use Rattle.vc_compile_plan.specs.Rules.{distinct}
use Rattle.vc_compile_uses.proofs.GrowingLemmas.{filter_both, filter_swap, or_none}
use Rattle.vc_compile_rules.specs.Inferring.{with_numbers}

abbrev is_new : List ℕ → ℕ → Bool
is_new known n = not (list_any (λ m. n == m) known)

-- the numbers that equal one that a test drops are dropped too
dropped : (q : ℕ → Bool) (x other : ℕ) → q x ≡ false → q other ≡ (not (x == other) && q other)
dropped q x other fails = elim (x == other) as (λ b. (x == other) ≡ b → q other ≡ (not b && q other)) [
  | true ↦ λ same. let is : x ≡ other = grind (arith, nat_tests) in sym (ap q is) ∙ fails
  | false ↦ λ apart. refl
] refl

-- a test before or after doubles are left out
distinct_filter : (q : ℕ → Bool) (xs : List ℕ) → distinct (filter q xs) ≡ filter q (distinct xs)
distinct_filter q [] = refl
distinct_filter q (x ∷ xs) = by (q x) refl (distinct_filter q xs)
  where
    others : List ℕ → List ℕ
    others numbers = filter (λ m. not (x == m)) numbers

    by : (b : Bool) → q x ≡ b → distinct (filter q xs) ≡ filter q (distinct xs)
        → distinct (cond b (x ∷ filter q xs) (filter q xs))
        ≡ cond b (x ∷ filter q (others (distinct xs))) (filter q (others (distinct xs)))
    by true is rest = ap (λ ns. x ∷ others ns) rest
        ∙ ap (λ ns. x ∷ ns) (filter_swap (λ m. not (x == m)) q (distinct xs))
    by false is rest = rest ∙ filter_both (λ m. not (x == m)) q q (λ other. dropped q x other is) (distinct xs)

turned : (n m : ℕ) → (n == m) ≡ (m == n)
turned n m = grind (arith, nat_tests)

still_new : (known : List ℕ) (n other : ℕ) → is_new (known ++ n ∷ []) other ≡ (is_new known other && not (n == other))
still_new known n other =
    ap not (list_any-append (λ m. other == m) known (n ∷ []))
    ∙ ap (λ b. not (list_any (λ m. other == m) known || (b || false))) (turned other n)
    ∙ or_none (list_any (λ m. other == m) known) (n == other)

new_numbers : (known more : List ℕ) → with_numbers known more ≡ known ++ distinct (filter (is_new known) more)
new_numbers known [] = sym (append-nil known)
new_numbers known (n ∷ more) =
    by (list_any (λ m. n == m) known) (new_numbers known more) (new_numbers (known ++ n ∷ []) more)
  where
    by : (b : Bool) → with_numbers known more ≡ known ++ distinct (filter (is_new known) more)
        → with_numbers (known ++ n ∷ []) more ≡ (known ++ n ∷ []) ++ distinct (filter (is_new (known ++ n ∷ [])) more)
        → with_numbers (cond b known (known ++ n ∷ [])) more
        ≡ known ++ distinct (cond (not b) (n ∷ filter (is_new known) more) (filter (is_new known) more))
    by true listed unlisted = listed
    by false listed unlisted =
        unlisted ∙ append_assoc known (n ∷ []) _
        ∙ ap (λ ns. known ++ n ∷ ns)
        (ap distinct (filter_both (is_new known) (λ other. not (n == other)) _ (still_new known n) more)
        ∙ distinct_filter (λ other. not (n == other)) (filter (is_new known) more))

all_new : (more : List ℕ) → filter (is_new []) more ≡ more
all_new [] = refl
all_new (n ∷ more) = ap (λ ns. n ∷ ns) (all_new more)

pub met_is_distinct : (more : List ℕ) → with_numbers [] more ≡ distinct more
met_is_distinct more = new_numbers [] more ∙ ap distinct (all_new more)
