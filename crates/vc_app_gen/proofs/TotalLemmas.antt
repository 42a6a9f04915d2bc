-- Totals over the numbers from one on: by the first of them, and at their end.
use Rattle.std.proofs.Common.{◌≡◌, ℕ, suc, ◌+◌, ◌-◌, ◌<◌, ◌≤◌, arith, ap, map}
use Rattle.std.specs.List.{range_with_len}
use Rattle.vc_net_places.specs.Cells.{total}

pub total_next : (f : ℕ → ℕ) (n end : ℕ) → n < end
    → total (map f (range_with_len n (end - n))) ≡ f n + total (map f (range_with_len (n + 1) (end - (n + 1))))
total_next f n end low =
    let more : end - n ≡ suc (end - (n + 1)) = omega (arith, low) in ap (λ k. total (map f (range_with_len n k))) more

pub total_done : (f : ℕ → ℕ) (n end : ℕ) → end ≤ n → total (map f (range_with_len n (end - n))) ≡ 0
total_done f n end past =
    let none : end - n ≡ 0 = omega (arith, past) in ap (λ k. total (map f (range_with_len n k))) none

pub ruleset totalling = (total_next, total_done)

-- what is told so far, with what the numbers to come give, is all of it: also when the next has been told, and at their
-- end
pub total_on : (f : ℕ → ℕ) (n end so_far next whole : ℕ) → n < end → next ≡ so_far + f n
    → so_far + total (map f (range_with_len n (end - n))) ≡ whole
    → next + total (map f (range_with_len (n + 1) (end - (n + 1)))) ≡ whole
total_on f n end so_far next whole low told e = let first = total_next f n end low in omega (arith, told, e, first)

pub total_ends : (f : ℕ → ℕ) (n end so_far whole : ℕ) → end ≤ n
    → so_far + total (map f (range_with_len n (end - n))) ≡ whole → so_far ≡ whole
total_ends f n end so_far whole past e = let none = total_done f n end past in omega (arith, e, none)
