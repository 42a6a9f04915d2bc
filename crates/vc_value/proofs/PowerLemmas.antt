-- Powers of ten.
use Rattle.std.proofs.Common.{ℕ, zero, suc, ◌^◌, ◌<◌, arith, lit<}
use Rattle.std.proofs.Math.Nat.{pow-suc}

pub ten_pow_pos : (n : ℕ) → 0 < 10 ^ n
ten_pow_pos zero = lit< tt
ten_pow_pos (suc n) = let below = ten_pow_pos n in let e = pow-suc 10 n in omega arith
