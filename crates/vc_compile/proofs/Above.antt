-- A number above another, as a test.
use Rattle.std.proofs.Common.{◌≡◌, ℕ, ◌<◌, ◌≤◌, nat_lt, true, false, arith}
use Rattle.std.proofs.lemmas.Bool.Decides.{nat_tests}

pub above : (n m : ℕ) → n < m → nat_lt n m ≡ true
above n m less = grind (arith, nat_tests)

pub not_above : (n m : ℕ) → m ≤ n → nat_lt n m ≡ false
not_above n m most = grind (arith, nat_tests)

pub is_above : (n m : ℕ) → nat_lt n m ≡ true → n < m
is_above n m test = grind (arith, nat_tests)
