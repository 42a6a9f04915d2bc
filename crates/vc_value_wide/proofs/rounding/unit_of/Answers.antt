-- A power of ten up to the sixth isn't 0, and is at most a million.
use Rattle.std.proofs.Common.{pow-add, ℕ, ◌*◌, ◌+◌, ◌-◌, ◌^◌, ◌≤◌, ◌≡◌, arith}
use Rattle.std.proofs.Math.Nat.{mul-le-mul_left}
use Rattle.vc_value.proofs.PowerLemmas.{ten_pow_pos}
use Rattle.vc_value.specs.Millionths.{one}
use Rattle.vc_value_wide.proofs.rounding.unit_of.Goals as goal

power_within : (n : ℕ) → n ≤ 6 → 10 ^ (6 - n) ≤ one
power_within n few =
    let all : 10 ^ (6 - n + n) ≡ 10 ^ (6 - n) * 10 ^ n = pow-add 10 (6 - n) n in
    let six : 6 - n + n ≡ 6 = omega arith in
    let whole : 10 ^ 6 ≡ 10 ^ (6 - n) * 10 ^ n = rw six at all in
    let more : 1 ≤ 10 ^ n = omega (arith, ten_pow_pos n) in
    let part : 10 ^ (6 - n) * 1 ≤ 10 ^ (6 - n) * 10 ^ n = mul-le-mul_left (10 ^ (6 - n)) more in
    omega arith

pub returns-clause-positive : goal.returns-clause-positive
returns-clause-positive c = rw c.pow.ensures (ten_pow_pos (6 - c.args.decimals))

pub returns-clause-within : goal.returns-clause-within
returns-clause-within c = rw c.pow.ensures (power_within c.args.decimals c.requires)
