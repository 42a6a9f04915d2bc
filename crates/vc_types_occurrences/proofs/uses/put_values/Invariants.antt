use Rattle.std.proofs.Common.{◌≡◌, ◌++◌, drop, map, flat_map}
use Rattle.vc_types.specs.Occurrences.{as_value}
use Rattle.vc_types_meanings.specs.Seen.{seen}
use Rattle.vc_types_occurrences.specs.Met.{all_met}
use Rattle.vc_types_occurrences.proofs.uses.put_values.Given as goal

abbrev pub invariant-loop-operand : goal.invariant-loop-operand
invariant-loop-operand l =
    l.out ++ all_met (seen l.setting) (map as_value (drop l.operand-index l.operands))
    ≡ l.fn.out ++ all_met (seen l.setting) (map as_value l.operands)
