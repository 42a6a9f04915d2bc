-- A sign changes no size.
use Rattle.std.proofs.Common.{◌≡◌, ℤ, arith}
use Rattle.std.specs.Prelude.{neg_ℤ, unsigned_abs}
use Rattle.std.proofs.lemmas.Int.{ints}

pub minus_size : (z : ℤ) → unsigned_abs (neg_ℤ z) ≡ unsigned_abs z
minus_size z = grind (arith, ints)
