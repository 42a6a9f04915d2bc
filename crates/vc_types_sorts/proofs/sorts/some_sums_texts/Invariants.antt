use Rattle.std.proofs.Common.{◌≡◌, drop, map, flat_map, Some, is_some}
use Rattle.std.specs.List.{filter_map, list_any}
use Rattle.vc_types.specs.SortFaults.{sums_texts}
use Rattle.vc_types_meanings.specs.Seen.{seen}
use Rattle.vc_types_occurrences.specs.Seen.{leaves_seen}
use Rattle.vc_types_sorts.proofs.sorts.some_sums_texts.Given as goal

abbrev pub invariant-loop-leaf : goal.invariant-loop-leaf
invariant-loop-leaf l =
    list_any (sums_texts (seen l.setting)) (leaves_seen (drop l.leaf-index l.leaves))
    ≡ list_any (sums_texts (seen l.setting)) (leaves_seen l.leaves)
