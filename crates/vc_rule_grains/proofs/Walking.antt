-- A walk over the numbers below another: what is done so far, and what is left to do.
use Rattle.std.proofs.Common.{◌≡◌, ℕ, suc, ◌+◌, ◌-◌, ◌<◌, ◌≤◌, List, [], ◌∷◌, sym, ◌∙◌, ap, arith}
use Rattle.std.specs.List.{range_with_len}
use Rattle.vc_plan.specs.Domains.{numbers_below}

-- what comes of it when each number of a list is gone by in turn
abbrev pub walked : {S : Type 0} → (S → ℕ → S) → S → List ℕ → S
walked step s [] = s
walked step s (g ∷ gs) = walked step (step s g) gs

-- at a number: what is done, and what is left to do, is all of it
pub record Walks {S : Type 0} (step : S → ℕ → S) (first now : S) (at count : ℕ) : Type 0 where
  pub within : at ≤ count
  pub left : walked step now (range_with_len at (count - at)) ≡ walked step first (numbers_below count)

pub walk_begun : {S : Type 0} (step : S → ℕ → S) (first now : S) (at count : ℕ) → now ≡ first → at ≡ 0
    → Walks step first now at count
walk_begun step first now at count e z = record {
  within = omega arith;
  left = ap (λ s. walked step s (range_with_len at (count - at))) e
      ∙ (ap (λ n. walked step first (range_with_len n (count - n))) z
      ∙ ap (λ n. walked step first (range_with_len 0 n)) (let k : count - 0 ≡ count = omega arith in k));
}

pub walk_on : {S : Type 0} (step : S → ℕ → S) (first now next : S) (at count : ℕ) → Walks step first now at count
    → at < count → next ≡ step now at
    → Walks step first next (at + 1) count
walk_on step first now next at count w below e =
    let more : count - at ≡ suc (count - (at + 1)) = omega arith in record {
      within = omega arith;
      left = ap (λ s. walked step s (range_with_len (at + 1) (count - (at + 1)))) e
          ∙ (ap (λ n. walked step now (range_with_len at n)) (sym more) ∙ w.left);
    }

pub walk_done : {S : Type 0} (step : S → ℕ → S) (first now : S) (at count : ℕ) → Walks step first now at count
    → count ≤ at
    → now ≡ walked step first (numbers_below count)
walk_done step first now at count w past =
    let none : count - at ≡ 0 = omega arith in ap (λ n. walked step now (range_with_len at n)) (sym none) ∙ w.left
