use Rattle.std.proofs.Common.{◌≡◌, drop, max}
use Rattle.vc_types.specs.RangeFaults.{largest}
use Rattle.vc_types_names.proofs.names.largest.Given as goal

abbrev pub invariant-loop-value : goal.invariant-loop-value
invariant-loop-value l = max l.largest (largest (drop l.value-index l.values)) ≡ largest l.values
