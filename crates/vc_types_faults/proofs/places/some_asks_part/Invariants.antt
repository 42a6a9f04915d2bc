use Rattle.std.proofs.Common.{◌≡◌, drop, map, flat_map, Some, is_some}
use Rattle.std.specs.List.{filter_map, list_any}
use Rattle.vc_types.specs.PlaceFaults.{asks_part}
use Rattle.vc_types_occurrences.specs.Seen.{conditions_seen}
use Rattle.vc_types_faults.proofs.places.some_asks_part.Given as goal

abbrev pub invariant-loop-condition : goal.invariant-loop-condition
invariant-loop-condition l =
    list_any asks_part (conditions_seen (drop l.condition-index l.conditions))
    ≡ list_any asks_part (conditions_seen l.conditions)
