-- Walks over the numbers below a limit: what those from one on give, by that one and those after it, and at their end.
use Rattle.std.proofs.Common.{◌≡◌, ℕ, suc, ◌+◌, ◌-◌, ◌<◌, ◌≤◌, Bool, true, false, cond, ◌&&◌, ◌||◌, List, [], ◌∷◌, ◌++◌}
use Rattle.std.proofs.Common.{sym, ◌∙◌, ap, append_assoc, inl, inr, arith}
use Rattle.std.specs.Prelude.{if◌then◌else◌, nat_eq, None, Some}
use Rattle.std.specs.List.{filter, find, flat_map, list_all, list_any, range_with_len}
use Rattle.vc_base.specs.Numbers.{numbers_below}
use Rattle.vc_base.proofs.ListLaws.{number_exact, number_itself, range_has}
use Rattle.vc_base.proofs.SetLaws.{both, none_at, told}

pub range_next : (g n : ℕ) → g < n → range_with_len g (n - g) ≡ g ∷ range_with_len (g + 1) (n - (g + 1))
range_next g n below = let more : n - g ≡ suc (n - (g + 1)) = omega (arith, below) in ap (range_with_len g) more

pub range_done : (g n : ℕ) → n ≤ g → range_with_len g (n - g) ≡ []
range_done g n past = let none : n - g ≡ 0 = omega (arith, past) in ap (range_with_len g) none

-- the first that passes
pub find_next : (p : ℕ → Bool) (g n : ℕ) → g < n → p g ≡ false
    → find p (range_with_len g (n - g)) ≡ find p (range_with_len (g + 1) (n - (g + 1)))
find_next p g n below e =
    ap (find p) (range_next g n below) ∙ ap (λ b. cond b (Some g) (find p (range_with_len (g + 1) (n - (g + 1))))) e

pub find_here : (p : ℕ → Bool) (g n : ℕ) → g < n → p g ≡ true → find p (range_with_len g (n - g)) ≡ Some g
find_here p g n below e =
    ap (find p) (range_next g n below) ∙ ap (λ b. cond b (Some g) (find p (range_with_len (g + 1) (n - (g + 1))))) e

pub find_done : (p : ℕ → Bool) (g n : ℕ) → n ≤ g → find p (range_with_len g (n - g)) ≡ None
find_done p g n past = ap (find p) (range_done g n past)

pub ruleset finding = (find_next, find_here, find_done)

-- whether all pass
pub all_next : (p : ℕ → Bool) (g n : ℕ) → g < n → p g ≡ true
    → list_all p (range_with_len g (n - g)) ≡ list_all p (range_with_len (g + 1) (n - (g + 1)))
all_next p g n below e =
    ap (list_all p) (range_next g n below) ∙ ap (λ b. b && list_all p (range_with_len (g + 1) (n - (g + 1)))) e

pub all_here : (p : ℕ → Bool) (g n : ℕ) → g < n → p g ≡ false → list_all p (range_with_len g (n - g)) ≡ false
all_here p g n below e =
    ap (list_all p) (range_next g n below) ∙ ap (λ b. b && list_all p (range_with_len (g + 1) (n - (g + 1)))) e

pub all_done : (p : ℕ → Bool) (g n : ℕ) → n ≤ g → list_all p (range_with_len g (n - g)) ≡ true
all_done p g n past = ap (list_all p) (range_done g n past)

pub ruleset testing = (all_next, all_here, all_done)

-- whether one passes
pub any_next : (p : ℕ → Bool) (g n : ℕ) → g < n → p g ≡ false
    → list_any p (range_with_len g (n - g)) ≡ list_any p (range_with_len (g + 1) (n - (g + 1)))
any_next p g n below e =
    ap (list_any p) (range_next g n below) ∙ ap (λ b. b || list_any p (range_with_len (g + 1) (n - (g + 1)))) e

pub any_here : (p : ℕ → Bool) (g n : ℕ) → g < n → p g ≡ true → list_any p (range_with_len g (n - g)) ≡ true
any_here p g n below e =
    ap (list_any p) (range_next g n below) ∙ ap (λ b. b || list_any p (range_with_len (g + 1) (n - (g + 1)))) e

pub any_done : (p : ℕ → Bool) (g n : ℕ) → n ≤ g → list_any p (range_with_len g (n - g)) ≡ false
any_done p g n past = ap (list_any p) (range_done g n past)

pub ruleset seeking = (any_next, any_here, any_done)

-- one does where a number below the limit does
pub some_below : (p : ℕ → Bool) (n v : ℕ) → v < n → p v ≡ true → list_any p (numbers_below n) ≡ true
some_below p n v low e =
    elim (told (list_any p (numbers_below n))) [
      | inl some ↦ some
      | inr none ↦
          absurd (both e (none_at nat_eq number_exact number_itself p (numbers_below n) v none
          (range_has 0 n v (omega arith) (omega (arith, low)))))
    ]

-- those that pass
pub filter_next : (p : ℕ → Bool) (g n : ℕ) → g < n → p g ≡ false
    → filter p (range_with_len g (n - g)) ≡ filter p (range_with_len (g + 1) (n - (g + 1)))
filter_next p g n below e =
    let rest = filter p (range_with_len (g + 1) (n - (g + 1))) in
    ap (filter p) (range_next g n below) ∙ ap (λ b. if b then g ∷ rest else rest) e

pub filter_here : (p : ℕ → Bool) (g n : ℕ) → g < n → p g ≡ true
    → filter p (range_with_len g (n - g)) ≡ g ∷ filter p (range_with_len (g + 1) (n - (g + 1)))
filter_here p g n below e =
    let rest = filter p (range_with_len (g + 1) (n - (g + 1))) in
    ap (filter p) (range_next g n below) ∙ ap (λ b. if b then g ∷ rest else rest) e

pub filter_done : (p : ℕ → Bool) (g n : ℕ) → n ≤ g → filter p (range_with_len g (n - g)) ≡ []
filter_done p g n past = ap (filter p) (range_done g n past)

-- what the numbers give, each a list
pub walk_next : {Y : Type 0} (g : ℕ → List Y) (n end : ℕ) → n < end
    → flat_map g (range_with_len n (end - n)) ≡ (g n ++ flat_map g (range_with_len (n + 1) (end - (n + 1))))
walk_next g n end low = ap (flat_map g) (range_next n end low)

pub walk_done : {Y : Type 0} (g : ℕ → List Y) (n end : ℕ) → end ≤ n → flat_map g (range_with_len n (end - n)) ≡ []
walk_done g n end past = ap (flat_map g) (range_done n end past)

pub ruleset walking = (walk_next, walk_done)

-- what is put so far, with what the numbers to come give, is all of it: also when the next has been put
pub walk_on : {Y : Type 0} (g : ℕ → List Y) (n end : ℕ) (out next whole : List Y) → n < end → next ≡ out ++ g n
    → out ++ flat_map g (range_with_len n (end - n)) ≡ whole
    → next ++ flat_map g (range_with_len (n + 1) (end - (n + 1))) ≡ whole
walk_on g n end out next whole low put so_far =
    let rest = flat_map g (range_with_len (n + 1) (end - (n + 1))) in
    ap (λ xs. xs ++ rest) put
    ∙ (append_assoc out (g n) rest ∙ (ap (λ xs. out ++ xs) (sym (walk_next g n end low)) ∙ so_far))
