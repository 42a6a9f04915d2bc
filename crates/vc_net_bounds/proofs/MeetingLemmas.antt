-- Variables that are met from the last to the first are as many as there are different ones.
use Rattle.std.proofs.Common.{◌≡◌, ℕ, Bool, true, false, cond, ◌||◌, ◌==◌, List, [], ◌∷◌, ◌++◌, length, refl, sym, ◌∙◌}
use Rattle.std.proofs.Common.{ap, arith, length-append}
use Rattle.std.specs.List.{list_any}
use Rattle.std.proofs.lemmas.Bool.Decides.{nat_tests}
use Rattle.std.proofs.lemmas.List.Folds.{list_any-append}
use Rattle.vc_plan.specs.Bounds.{distinct}
use Rattle.vc_net_bounds.specs.Meeting.{met_after, with_met}

-- those of two lists, one after the other
pub met_parts : (xs ys met : List ℕ) → met_after xs (met_after ys met) ≡ met_after (xs ++ ys) met
met_parts [] ys met = refl
met_parts (x ∷ xs) ys met = ap (λ m. with_met m x) (met_parts xs ys met)

eq_swap : (x y : ℕ) → (x == y) ≡ (y == x)
eq_swap x y = grind (arith, nat_tests)

-- whether a number is there
abbrev has : ℕ → List ℕ → Bool
has x xs = list_any (λ y. x == y) xs

any_swap : (x : ℕ) (xs : List ℕ) → list_any (λ y. y == x) xs ≡ has x xs
any_swap x [] = refl
any_swap x (y ∷ ys) = ap (λ b. b || list_any (λ z. z == x) ys) (eq_swap y x) ∙ ap (λ b. (x == y) || b) (any_swap x ys)

or_same : (a b : Bool) → (a ≡ true → b ≡ true) → b ≡ (a || b)
or_same true b f = f refl
or_same false b f = refl

or_last : (a b : Bool) → (b || (a || false)) ≡ (a || b)
or_last true true = refl
or_last true false = refl
or_last false true = refl
or_last false false = refl

-- a number that equals one that is there is there
there : (x y : ℕ) (ys : List ℕ) → has y ys ≡ true → (x == y) ≡ true → has x ys ≡ true
there x y ys e same = let is : x ≡ y = grind (arith, nat_tests, same) in ap (λ z. has z ys) is ∙ e

-- what is there stays there when each is met, or left, once
met_has : (xs : List ℕ) (x : ℕ) → has x (met_after xs []) ≡ has x xs
met_has [] x = refl
met_has (y ∷ ys) x = by (has y (met_after ys [])) refl (met_has ys x) (met_has ys y)
  where
    met : List ℕ
    met = met_after ys []

    by : (b : Bool) → has y met ≡ b → has x met ≡ has x ys → has y met ≡ has y ys
        → has x (cond b met (met ++ y ∷ [])) ≡ ((x == y) || has x ys)
    by true e rest own = rest ∙ or_same (x == y) (has x ys) (there x y ys (sym own ∙ e))
    by false e rest own =
        list_any-append (λ z. x == z) met (y ∷ [])
        ∙ (or_last (x == y) (has x met) ∙ ap (λ b. (x == y) || b) rest)

pub met_count : (xs : List ℕ) → length (met_after xs []) ≡ length (distinct xs)
met_count [] = refl
met_count (y ∷ ys) = by (has y met) (list_any (λ z. z == y) ys) same (met_count ys)
  where
    met : List ℕ
    met = met_after ys []

    same : has y met ≡ list_any (λ z. z == y) ys
    same = met_has ys y ∙ sym (any_swap y ys)

    by : (a b : Bool) → a ≡ b → length met ≡ length (distinct ys)
        → length (cond a met (met ++ y ∷ [])) ≡ length (cond b (distinct ys) (y ∷ distinct ys))
    by true true e rest = rest
    by true false e rest = absurd (cc)
    by false true e rest = absurd (cc)
    by false false e rest = let more = length-append met (y ∷ []) in omega (arith, rest, more)
