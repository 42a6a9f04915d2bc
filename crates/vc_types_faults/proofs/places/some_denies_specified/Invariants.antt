use Rattle.std.proofs.Common.{◌≡◌, drop}
use Rattle.std.specs.List.{list_any}
use Rattle.vc_types.specs.PlaceFaults.{denies_specified}
use Rattle.vc_types_occurrences.specs.Seen.{conditions_seen}
use Rattle.vc_types_faults.proofs.places.some_denies_specified.Given as goal

abbrev pub invariant-loop-condition : goal.invariant-loop-condition
invariant-loop-condition l = list_any denies_specified (conditions_seen (drop l.condition-index l.conditions))
    ≡ list_any denies_specified (conditions_seen l.conditions)
