use Rattle.std.proofs.Common.{◌≡◌, ◌++◌, drop, map, flat_map}
use Rattle.vc_types.specs.Occurrences.{parted_in}
use Rattle.vc_types_occurrences.specs.Seen.{leaves_seen, conditions_seen}
use Rattle.vc_types_occurrences.proofs.gathering.put_all_parted.Given as goal

abbrev pub invariant-loop-condition : goal.invariant-loop-condition
invariant-loop-condition l =
    leaves_seen l.out ++ flat_map parted_in (conditions_seen (drop l.condition-index l.conditions))
    ≡ leaves_seen l.fn.out ++ flat_map parted_in (conditions_seen l.conditions)
