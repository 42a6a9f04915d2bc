-- Laws of readings in full.
use Rattle.std.specs.Prelude.{◌≡◌, ℕ, Bool}
use Rattle.vc_plan.specs.declared.plans.Plan.{Plan}
use Rattle.vc_plan.specs.Readings.{full_reading, net_reading}
use Rattle.vc_plan.specs.Seen.{Seen}
use Rattle.vc_plan.specs.Truth.{value_at}
use Rattle.vc_plan.specs.Valid.{IsValid}
use Rattle.vc_rule_readings.specs.Summing.{SumsFit}

-- in a valid plan sums over parts can be computed
abbrev pub ValidSumsFit : Type 0
ValidSumsFit = (plan : Plan) → IsValid plan → SumsFit plan

-- a term's value in full is that of a net: neither has sums over parts
abbrev pub FullValues : Type 0
FullValues = (plan : Plan) (seen : Seen) (holds : ℕ → ℕ → Bool) (term : ℕ)
    → value_at plan (full_reading plan seen holds) term ≡ value_at plan (net_reading seen) term
