-- Counts of faults, and calls in memory of which some are to fail.
use Rattle.std.specs.Prelude.{◌≡◌, ℕ, ◌+◌, ◌-◌, ◌^◌, ◌≤◌, Bool, ◌&&◌, ◌==◌, min, List, [], ◌∷◌, Result, OnOk, OnErr}
use Rattle.std.specs.Prelude.{nat_le, nat_lt, if◌then◌else◌}
use Rattle.std.specs.List.{list_any}

-- the count is greater than before, or stands at the last value of a u64
abbrev pub Raised : ℕ → ℕ → Type 0
Raised before now = min (before + 1) (2 ^ 64 - 1) ≤ now

-- a call that answers an error raises the count of faults, and any other leaves it as it was
pub record HasCause {T E : Type 0} (before now : ℕ) (result : Result T E) : Type 0 where
  pub later : before ≤ now
  pub failed : OnErr result (Raised before now)
  pub calm : OnOk result (now ≡ before)

-- how many calls were made, and the numbers of those that are to fail, counted from 1
pub record Calls : Type 0 where
  pub made : ℕ
  pub failing : List ℕ

-- the next call is one of those that are to fail; past the last value of a u64 none is counted, and none fails
abbrev pub next_fails : Calls → Bool
next_fails calls = nat_lt calls.made (2 ^ 64 - 1) && list_any (λ number. number == calls.made + 1) calls.failing

-- one call more is made
abbrev pub with_call : Calls → Calls
with_call calls = record { made = min (calls.made + 1) (2 ^ 64 - 1); failing = calls.failing }

-- how many of the numbers are at most the limit
abbrev pub count_upto : ℕ → List ℕ → ℕ
count_upto limit [] = 0
count_upto limit (number ∷ numbers) = (if nat_le number limit then 1 else 0) + count_upto limit numbers

-- how many of the calls made were to fail
abbrev pub faults_of : Calls → ℕ
faults_of calls = count_upto calls.made calls.failing
