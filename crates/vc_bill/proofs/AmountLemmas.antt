-- Amounts as stored numbers, and as their counts of millionths.
use Rattle.std.proofs.Common.{◌≡◌, refl}
use Rattle.std.specs.Prelude.{Option, None, Some}
use Rattle.vc_value.specs.declared.decimal.Dec.{Dec}
use Rattle.vc_plan.specs.Bills.{stored}
use Rattle.vc_rule_readings.specs.Summing.{stored_count}

pub stored_again : (a : Option Dec) → a ≡ stored (stored_count a)
stored_again None = refl
stored_again (Some a) = refl
