use Rattle.std.proofs.Common.{◌≡◌, ◌++◌, drop, map, flat_map}
use Rattle.vc_types.specs.Occurrences.{uses_of_relation}
use Rattle.vc_types_occurrences.specs.Seen.{relations_seen}
use Rattle.vc_types_meanings.specs.Seen.{seen}
use Rattle.vc_types_occurrences.specs.Met.{all_met}
use Rattle.vc_types_occurrences.proofs.uses.put_relations_uses.Given as goal

abbrev pub invariant-loop-relation : goal.invariant-loop-relation
invariant-loop-relation l =
    l.out ++ all_met (seen l.setting) (flat_map uses_of_relation (relations_seen (drop l.relation-index l.relations)))
    ≡ l.fn.out ++ all_met (seen l.setting) (flat_map uses_of_relation (relations_seen l.relations))
