-- Walks over the numbers below a limit: what the numbers from one on give, by the first of them and those after it.
use Rattle.std.proofs.Common.{◌≡◌, ℕ, zero, suc, ◌+◌, ◌-◌, ◌<◌, ◌≤◌, ℤ, Bool, true, false, cond, ◌&&◌, List, [], ◌∷◌}
use Rattle.std.proofs.Common.{map, refl, sym, ◌∙◌, ap, arith}
use Rattle.std.specs.Prelude.{if◌then◌else◌, Option, None, Some}
use Rattle.std.specs.List.{filter, find, range_with_len}
use Rattle.vc_base.proofs.RangeLaws.{range_next, range_done, find_next}
use Rattle.vc_plan.specs.declared.terms.Operator.TheVariants.{Plus}
use Rattle.vc_plan.specs.Numbers.{joined}
use Rattle.vc_plan.specs.Parts.{total}

-- where none before a number passes, the first from there on is the first
pub find_from : (p : ℕ → Bool) (s n : ℕ) → s ≤ n → ((k : ℕ) → k < s → p k ≡ false)
    → find p (range_with_len s (n - s)) ≡ find p (range_with_len 0 n)
find_from p zero n low out = let whole : n - 0 ≡ n = omega arith in ap (λ m. find p (range_with_len 0 m)) whole
find_from p (suc s) n low out =
    let next : s + 1 ≡ suc s = omega arith in
    ap (λ t. find p (range_with_len t (n - t))) (sym next)
    ∙ (sym (find_next p s n (omega (arith, low)) (out s (omega arith)))
    ∙ find_from p s n (omega (arith, low)) (λ k h. out k (omega (arith, h))))

-- and where none from there on passes, there is none
pub find_past : (p : ℕ → Bool) (m s : ℕ) → ((k : ℕ) → s ≤ k → p k ≡ false) → find p (range_with_len s m) ≡ None
find_past p zero s out = refl
find_past p (suc m) s out =
    ap (λ b. cond b (Some s) (find p (range_with_len (s + 1) m))) (out s (omega arith))
    ∙ find_past p m (s + 1) (λ k h. out k (omega (arith, h)))

pub find_alike : (p q : ℕ → Bool) → ((k : ℕ) → p k ≡ q k) → (gs : List ℕ) → find p gs ≡ find q gs
find_alike p q same [] = refl
find_alike p q same (g ∷ gs) =
    ap (λ b. cond b (Some g) (find p gs)) (same g) ∙ ap (λ o. cond (q g) (Some g) o) (find_alike p q same gs)

-- a total over the numbers that pass: that over those from one on, with the number before it
pub total_next : (w : ℕ → Option ℤ) (p : ℕ → Bool) (g n : ℕ) → g < n
    → total (map w (filter p (range_with_len g (n - g))))
    ≡ (let later = total (map w (filter p (range_with_len (g + 1) (n - (g + 1))))) in if p g
    then joined Plus (w g) later else later)
total_next w p g n below =
    let rest = range_with_len (g + 1) (n - (g + 1)) in
    ap (λ gs. total (map w (filter p gs))) (range_next g n below) ∙ by (filter p rest) (p g)
  where
    by : (kept : List ℕ) (b : Bool)
        → total (map w (if b then g ∷ kept else kept))
        ≡ (if b then joined Plus (w g) (total (map w kept)) else total (map w kept))
    by kept true = refl
    by kept false = refl

pub total_down : (w : ℕ → Option ℤ) (p : ℕ → Bool) (g n : ℕ) (s t : Option ℤ) → 0 < g → g ≤ n
    → s ≡ total (map w (filter p (range_with_len g (n - g))))
    → t ≡ (if p (g - 1) then joined Plus (w (g - 1)) s else s)
    → (g - 1 ≤ n) × (t ≡ total (map w (filter p (range_with_len (g - 1) (n - (g - 1))))))
total_down w p g n s t some within e f =
    let back : g - 1 + 1 ≡ g = omega (arith, some) in
    let same : total (map w (filter p (range_with_len (g - 1 + 1) (n - (g - 1 + 1))))) ≡ s =
    ap (λ k. total (map w (filter p (range_with_len k (n - k))))) back ∙ sym e in (
      omega (arith, within),
      f
          ∙ (ap (λ (o : Option ℤ). if p (g - 1) then joined Plus (w (g - 1)) o else o) (sym same)
          ∙ sym (total_next w p (g - 1) n (omega (arith, some, within)))),
    )

pub total_begun : (w : ℕ → Option ℤ) (p : ℕ → Bool) (g n : ℕ) → n ≤ g
    → total (map w (filter p (range_with_len g (n - g)))) ≡ total []
total_begun w p g n past = ap (λ gs. total (map w (filter p gs))) (range_done g n past)

-- those that pass two tests pass both at once
pub filter_both : (p q : ℕ → Bool) (gs : List ℕ) → filter q (filter p gs) ≡ filter (λ g. p g && q g) gs
filter_both p q [] = refl
filter_both p q (g ∷ gs) = by (p g) (q g) (filter_both p q gs)
  where
    by : (b c : Bool) → filter q (filter p gs) ≡ filter (λ h. p h && q h) gs
        → filter q (if b then g ∷ filter p gs else filter p gs)
        ≡ (if b && q g then g ∷ filter (λ h. p h && q h) gs else filter (λ h. p h && q h) gs)
    by true c e = ap (λ hs. if q g then g ∷ hs else hs) e
    by false c e = e

pub filter_all : (p : ℕ → Bool) (gs : List ℕ) → filter p gs ≡ filter (λ g. p g && true) gs
filter_all p [] = refl
filter_all p (g ∷ gs) = by (p g) (filter_all p gs)
  where
    by : (b : Bool) → filter p gs ≡ filter (λ h. p h && true) gs
        → (if b then g ∷ filter p gs else filter p gs)
        ≡ (if b && true then g ∷ filter (λ h. p h && true) gs else filter (λ h. p h && true) gs)
    by true e = ap (λ hs. g ∷ hs) e
    by false e = e
