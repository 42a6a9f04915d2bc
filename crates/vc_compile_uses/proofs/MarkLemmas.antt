-- Numbers that are marked one after another, and the numbers that a test picks.
use Rattle.std.proofs.Common.{◌≡◌, ℕ, zero, suc, ◌+◌, ◌<◌, ◌==◌, Bool, true, false, cond, ◌||◌, List, []}
use Rattle.std.proofs.Common.{◌∷◌, ◌++◌, map, flat_map, length, get_or, set, drop, refl, sym, ap, ◌∙◌, arith, subst}
use Rattle.std.proofs.Math.Seq.{lt-length-set, drop-cons}
use Rattle.std.proofs.lemmas.Bool.Decides.{nat_tests}
use Rattle.std.proofs.lemmas.List.{length-set}
use Rattle.std.proofs.lemmas.List.Folds.{list_any-append}
use Rattle.std.specs.List.{filter, list_any, range_with_len}
use Rattle.vc_plan.specs.Domains.{numbers_below}
use Rattle.vc_compile_plan.specs.Uses.{is_one_of}
use Rattle.vc_compile_uses.specs.Marks.{mark_all, marked_from}

-- marks of two lists of numbers
pub mark_join : (marks : List Bool) (first second : List ℕ)
    → mark_all marks (first ++ second) ≡ mark_all (mark_all marks first) second
mark_join marks [] second = refl
mark_join marks (d ∷ first) second = mark_join (set marks d true) first second

-- marks of one element more
pub mark_next : {X : Type 0} (f : X → List ℕ) (xs : List X) (i : ℕ) (d : X) (before after all : List Bool)
    → i < length xs → after ≡ mark_all before (f (get_or xs i d))
    → mark_all before (flat_map f (drop i xs)) ≡ all → mark_all after (flat_map f (drop (i + 1) xs)) ≡ all
mark_next f xs i d before after all inside marked so_far =
    ap (λ marks. mark_all marks (flat_map f (drop (i + 1) xs))) marked
    ∙ sym (mark_join before (f (get_or xs i d)) (flat_map f (drop (i + 1) xs)))
    ∙ ap (λ ys. mark_all before (flat_map f ys)) (cons_there xs i d inside)
    ∙ so_far
  where
    cons_there : {X : Type 0} (xs : List X) (i : ℕ) (d : X) → i < length xs
        → get_or xs i d ∷ drop (i + 1) xs ≡ drop i xs
    cons_there xs i d inside =
        let next : i + 1 ≡ suc i = omega arith in
        ap (λ n. get_or xs i d ∷ drop n xs) next ∙ sym (drop-cons xs i d inside)

pub ruleset joins = (mark_join)

mark_count : (marks : List Bool) (ds : List ℕ) → length (mark_all marks ds) ≡ length marks
mark_count marks [] = refl
mark_count marks (d ∷ ds) = mark_count (set marks d true) ds ∙ length-set marks d true

-- one mark more
one_marked : (marks : List Bool) (m d : ℕ) → d < length marks
    → get_or (set marks m true) d false ≡ ((m == d) || get_or marks d false)
one_marked [] m d inside = absurd (omega (inside, arith))
one_marked (mark ∷ marks) zero zero inside = refl
one_marked (mark ∷ marks) zero (suc d) inside = ap (λ b. b || get_or marks d false) (zero_suc d)
  where
    zero_suc : (d : ℕ) → false ≡ (0 == suc d)
    zero_suc d = grind (arith, nat_tests)
one_marked (mark ∷ marks) (suc m) zero inside = ap (λ b. b || mark) (suc_zero m)
  where
    suc_zero : (m : ℕ) → false ≡ (suc m == 0)
    suc_zero m = grind (arith, nat_tests)
one_marked (mark ∷ marks) (suc m) (suc d) inside =
    one_marked marks m d (omega (inside, arith)) ∙ ap (λ b. b || get_or marks d false) (suc_suc m d)
  where
    suc_suc : (m d : ℕ) → (m == d) ≡ (suc m == suc d)
    suc_suc m d = grind (arith, nat_tests)

or_shift : (a b c : Bool) → (b || (a || c)) ≡ ((a || b) || c)
or_shift true true c = refl
or_shift true false c = refl
or_shift false true c = refl
or_shift false false c = refl

all_marked : (marks : List Bool) (ds : List ℕ) (d : ℕ) → d < length marks
    → get_or (mark_all marks ds) d false ≡ (is_one_of ds d || get_or marks d false)
all_marked marks [] d inside = refl
all_marked marks (m ∷ ds) d inside =
    all_marked (set marks m true) ds d (lt-length-set marks m true inside)
    ∙ ap (λ b. is_one_of ds d || b) (one_marked marks m d inside)
    ∙ or_shift (m == d) (is_one_of ds d) (get_or marks d false)

-- marks that a test tells
marked_are : (p : ℕ → Bool) (n : ℕ) (marks : List Bool)
    → ((i : ℕ) → i < length marks → get_or marks i false ≡ p (n + i))
    → marked_from n marks ≡ filter p (range_with_len n (length marks))
marked_are p n [] told = refl
marked_are p n (mark ∷ marks) told =
    ap (λ b. cond b (n ∷ marked_from (n + 1) marks) (marked_from (n + 1) marks)) (told 0 (omega arith) ∙ ap p (first n))
    ∙ ap (λ ds. cond (p n) (n ∷ ds) ds)
    (marked_are p (n + 1) marks (λ i inside. told (suc i) (omega (inside, arith)) ∙ ap p (next n i)))
  where
    first : (n : ℕ) → n + 0 ≡ n
    first n = omega arith

    next : (n i : ℕ) → n + suc i ≡ n + 1 + i
    next n i = omega arith

none_marked : {X : Type 0} (xs : List X) (d : ℕ) → get_or (map (λ x. false) xs) d false ≡ false
none_marked [] d = refl
none_marked (x ∷ xs) zero = refl
none_marked (x ∷ xs) (suc d) = none_marked xs d

count_same : {X : Type 0} (xs : List X) → length (map (λ x. false) xs) ≡ length xs
count_same [] = refl
count_same (x ∷ xs) = ap suc (count_same xs)

or_nothing : (b : Bool) → (b || false) ≡ b
or_nothing true = refl
or_nothing false = refl

-- the numbers that are marked, where none was before
pub marked : {X : Type 0} (xs : List X) (ds : List ℕ) (p : ℕ → Bool) → ((d : ℕ) → is_one_of ds d ≡ p d)
    → marked_from 0 (mark_all (map (λ x. false) xs) ds) ≡ filter p (numbers_below (length xs))
marked xs ds p told =
    marked_are p 0 (mark_all none ds) tells
    ∙ ap (λ n. filter p (range_with_len 0 n)) (mark_count none ds ∙ count_same xs)
  where
    none : List Bool
    none = map (λ x. false) xs

    from_zero : (d : ℕ) → d ≡ 0 + d
    from_zero d = omega arith

    tells : (d : ℕ) → d < length (mark_all none ds) → get_or (mark_all none ds) d false ≡ p (0 + d)
    tells d inside =
        all_marked none ds d (subst (λ n. d < n) (mark_count none ds) inside)
        ∙ ap (λ b. is_one_of ds d || b) (none_marked xs d)
        ∙ or_nothing (is_one_of ds d) ∙ told d ∙ ap p (from_zero d)

-- what is one of the numbers of all
pub one_of_all : {X : Type 0} (f : X → List ℕ) (xs : List X) (d : ℕ)
    → is_one_of (flat_map f xs) d ≡ list_any (λ x. is_one_of (f x) d) xs
one_of_all f [] d = refl
one_of_all f (x ∷ xs) d =
    list_any-append (λ m. m == d) (f x) (flat_map f xs) ∙ ap (λ b. is_one_of (f x) d || b) (one_of_all f xs d)

pub one_of_both : {X : Type 0} (f g : X → List ℕ) (xs : List X) (d : ℕ)
    → is_one_of (flat_map f xs ++ flat_map g xs) d
    ≡ (list_any (λ x. is_one_of (f x) d) xs || list_any (λ x. is_one_of (g x) d) xs)
one_of_both f g xs d =
    list_any-append (λ m. m == d) (flat_map f xs) (flat_map g xs)
    ∙ ap (λ b. b || is_one_of (flat_map g xs) d) (one_of_all f xs d)
    ∙ ap (λ b. list_any (λ x. is_one_of (f x) d) xs || b) (one_of_all g xs d)
