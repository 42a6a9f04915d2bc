-- Walks over the numbers below a limit: what the numbers from one on give, by the first of them and those after it.
use Rattle.std.proofs.Common.{◌≡◌, ℕ, ◌+◌, ◌-◌, ◌<◌, ◌≤◌, [], ◌∷◌, map, ◌∙◌, ap}
use Rattle.std.proofs.Common.{arith}
use Rattle.std.specs.Prelude.{max}
use Rattle.std.specs.List.{range_with_len}
use Rattle.vc_base.proofs.RangeLaws.{range_next, range_done}
use Rattle.vc_plan.specs.declared.atoms.Atom.{Atom}
use Rattle.vc_plan.specs.Bounds.{greatest}
use Rattle.vc_rule_yield.specs.Filling.{Filled, with_items}
use Rattle.vc_net_blame.specs.Searching.{pushed_all}

-- each put at the end of a list of fixed room
pub put_next : (f : ℕ → Atom) (list : Filled Atom) (g n : ℕ) → g < n
    → pushed_all list (map f (range_with_len g (n - g)))
    ≡ pushed_all (with_items list (f g ∷ [])) (map f (range_with_len (g + 1) (n - (g + 1))))
put_next f list g n below = ap (λ gs. pushed_all list (map f gs)) (range_next g n below)

pub put_done : (f : ℕ → Atom) (list : Filled Atom) (g n : ℕ) → n ≤ g
    → pushed_all list (map f (range_with_len g (n - g))) ≡ list
put_done f list g n past = ap (λ gs. pushed_all list (map f gs)) (range_done g n past)

pub ruleset putting = (put_next, put_done)

-- the greatest
pub greatest_next : (f : ℕ → ℕ) (most g n : ℕ) → g < n
    → max most (greatest f (range_with_len g (n - g)))
    ≡ max (max most (f g)) (greatest f (range_with_len (g + 1) (n - (g + 1))))
greatest_next f most g n below = ap (λ gs. max most (greatest f gs)) (range_next g n below) ∙ omega arith

pub greatest_done : (f : ℕ → ℕ) (most g n : ℕ) → n ≤ g → max most (greatest f (range_with_len g (n - g))) ≡ most
greatest_done f most g n past = ap (λ gs. max most (greatest f gs)) (range_done g n past) ∙ omega arith

pub ruleset greatest_of = (greatest_next, greatest_done)
