use Rattle.std.proofs.Common.{◌≡◌, length}
use Rattle.vc_value.specs.Decimals.{significant}
use Rattle.vc_value.proofs.decimal.significant.Given as goal

abbrev pub invariant-loop-rest : goal.invariant-loop-rest
invariant-loop-rest l = significant l.rest ≡ significant l.digits

abbrev pub decreases-loop-rest : goal.decreases-loop-rest
decreases-loop-rest l = length l.rest
