use Rattle.std.proofs.Common.{◌≡◌, drop, map, flat_map, Some, is_some}
use Rattle.std.specs.List.{filter_map, list_any}
use Rattle.vc_types.specs.SortFaults.{relates_wrongly}
use Rattle.vc_types_meanings.specs.Seen.{seen}
use Rattle.vc_types_occurrences.specs.Seen.{relations_seen}
use Rattle.vc_types_sorts.proofs.sorts.some_relates_wrongly.Given as goal

abbrev pub invariant-loop-relation : goal.invariant-loop-relation
invariant-loop-relation l =
    list_any (relates_wrongly (seen l.setting)) (relations_seen (drop l.relation-index l.relations))
    ≡ list_any (relates_wrongly (seen l.setting)) (relations_seen l.relations)
