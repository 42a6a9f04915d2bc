-- Digits and the numbers that they write.
use Rattle.std.proofs.Common.{◌≡◌, ℕ, ◌+◌, ◌-◌, ◌*◌, ◌^◌, ◌<◌, ◌≤◌, Bool, true, false, List, [], ◌∷◌, refl, sym, subst}
use Rattle.std.proofs.Common.{arith, nat_eq, if◌then◌else◌}
use Rattle.std.specs.List.{list_all}
use Rattle.std.proofs.Math.Nat.{mul-lt-mul_of_pos_right}
use Rattle.std.proofs.lemmas.Nat.{pow-add}
use Rattle.vc_value.specs.Decimals.{significant}
use Rattle.vc_value.proofs.GrainLemmas.{both}
use Rattle.vc_value.proofs.PowerLemmas.{ten_pow_pos}

-- what holds of each digit holds of those from the first that isn't 0 on
pub significant_all : (p : ℕ → Bool) (digits : List ℕ) → list_all p digits ≡ true
    → list_all p (significant digits) ≡ true
significant_all p [] all = refl
significant_all p (d ∷ ds) all = elim (nat_eq d 48) as (λ b. list_all p (if b then significant ds else d ∷ ds) ≡ true) [
  | true ↦ significant_all p ds (both (p d) (list_all p ds) all).1
  | false ↦ all
]

-- so many digits, and as many zeros as make six of them
pub below_a_million : (number digits : ℕ) → number < 10 ^ digits → digits ≤ 6 → number * 10 ^ (6 - digits) < 10 ^ 6
below_a_million number digits below few =
    let six : digits + (6 - digits) ≡ 6 = omega arith in
    let P : ℕ → Type 0 = λ power. number * 10 ^ (6 - digits) < power in
    let Q : ℕ → Type 0 = λ n. number * 10 ^ (6 - digits) < 10 ^ n in
    subst Q six (subst P (sym (pow-add 10 digits (6 - digits)))
    (mul-lt-mul_of_pos_right below (ten_pow_pos (6 - digits))))
