use Rattle.std.proofs.Common.{◌≡◌, ◌++◌, drop, map, flat_map}
use Rattle.vc_types.specs.Occurrences.{as_set, specified_in}
use Rattle.vc_types_occurrences.specs.Seen.{conditions_seen}
use Rattle.vc_types_meanings.specs.Seen.{seen}
use Rattle.vc_types_occurrences.specs.Met.{all_met}
use Rattle.vc_types_occurrences.proofs.uses.put_all_specified.Given as goal

abbrev pub invariant-loop-condition : goal.invariant-loop-condition
invariant-loop-condition l =
    l.out ++ all_met (seen l.setting)
    (map as_set (flat_map specified_in (conditions_seen (drop l.condition-index l.conditions))))
    ≡ l.fn.out ++ all_met (seen l.setting) (map as_set (flat_map specified_in (conditions_seen l.conditions)))
