-- How many grains pass, counted one after the other, and what follows of it.
use Rattle.std.proofs.Common.{◌≡◌, ℕ, ◌+◌, ◌-◌, ◌<◌, ◌≤◌, Bool, true, false, cond, List, [], ◌∷◌, refl, sym, ◌∙◌, ap}
use Rattle.std.specs.List.{filter, range_with_len}
use Rattle.vc_base.specs.Rounds.{clash, atoms}
use Rattle.vc_base.proofs.RangeLaws.{range_next, range_done}
use Rattle.vc_plan.specs.declared.plans.Plan.{Plan}
use Rattle.vc_plan.specs.Answers.{clash_if, is_nothing, last_atoms, nothing}
use Rattle.vc_plan.specs.Restrictions.{of_remaining}
use Rattle.vc_check_gives.specs.Counting.{counted, last_given, left_given, remaining_of, with_one}
use Rattle.vc_check_gives.specs.declared.grains_left.Remaining.{Remaining}
use Rattle.vc_check_gives.specs.declared.grains_left.Remaining.TheVariants.{Nothing, One, Several}

several_stay : (gs : List ℕ) → counted Several gs ≡ Several
several_stay [] = refl
several_stay (g ∷ gs) = several_stay gs

pub count_begun : (gs : List ℕ) → counted Nothing gs ≡ remaining_of gs
count_begun [] = refl
count_begun (g ∷ []) = refl
count_begun (g ∷ (h ∷ more)) = several_stay more

pub count_next : (p : ℕ → Bool) (now next : Remaining) (g n : ℕ) (b : Bool) → g < n → b ≡ p g
    → next ≡ cond b (with_one now g) now
    → counted now (filter p (range_with_len g (n - g)))
    ≡ counted next (filter p (range_with_len (g + 1) (n - (g + 1))))
count_next p now next g n b below is step =
    ap (λ gs. counted now (filter p gs)) (range_next g n below)
    ∙ (by (p g) ∙ ap (λ r. counted r rest) (sym (step ∙ ap (λ c. cond c (with_one now g) now) is)))
  where
    rest : List ℕ
    rest = filter p (range_with_len (g + 1) (n - (g + 1)))

    by : (c : Bool) → counted now (cond c (g ∷ rest) rest) ≡ counted (cond c (with_one now g) now) rest
    by true = refl
    by false = refl

pub count_done : (p : ℕ → Bool) (now : Remaining) (g n : ℕ) → n ≤ g
    → counted now (filter p (range_with_len g (n - g))) ≡ now
count_done p now g n past = ap (λ gs. counted now (filter p gs)) (range_done g n past)

pub ruleset counting = (count_begun, count_next, count_done)

-- what follows
pub left_is : (plan : Plan) (v : ℕ) (gs : List ℕ) → of_remaining plan v gs ≡ left_given plan v (remaining_of gs)
left_is plan v [] = refl
left_is plan v (g ∷ []) = refl
left_is plan v (g ∷ (h ∷ more)) = refl

pub last_is : (plan : Plan) (v : ℕ) (gs : List ℕ)
    → atoms (last_atoms plan v gs) ≡ last_given plan v (remaining_of gs)
last_is plan v [] = refl
last_is plan v (g ∷ []) = refl
last_is plan v (g ∷ (h ∷ more)) = refl

pub none_is : (gs : List ℕ) → remaining_of gs ≡ Nothing → clash_if (is_nothing gs) nothing ≡ clash
none_is [] e = refl
none_is (g ∷ []) e = absurd (cc)
none_is (g ∷ (h ∷ more)) e = absurd (cc)

pub one_is : (gs : List ℕ) (g : ℕ) → remaining_of gs ≡ One g → clash_if (is_nothing gs) nothing ≡ nothing
one_is [] g e = absurd (cc)
one_is (h ∷ []) g e = refl
one_is (h ∷ (i ∷ more)) g e = refl

pub several_is : (gs : List ℕ) → remaining_of gs ≡ Several → clash_if (is_nothing gs) nothing ≡ nothing
several_is [] e = absurd (cc)
several_is (h ∷ []) e = refl
several_is (h ∷ (i ∷ more)) e = refl

pub ruleset none_left = (none_is, one_is, several_is)
