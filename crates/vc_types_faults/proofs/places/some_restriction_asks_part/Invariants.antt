use Rattle.std.proofs.Common.{◌≡◌, drop, map, flat_map, Some, is_some}
use Rattle.std.specs.List.{filter_map, list_any}
use Rattle.vc_syntax_tree.specs.Trees.{restriction_of}
use Rattle.vc_types.specs.Occurrences.{condition_of_restriction}
use Rattle.vc_types.specs.PlaceFaults.{asks_part}
use Rattle.vc_types_faults.proofs.places.some_restriction_asks_part.Given as goal

abbrev pub invariant-loop-restriction : goal.invariant-loop-restriction
invariant-loop-restriction l =
    list_any asks_part (flat_map condition_of_restriction
    (map restriction_of (drop l.restriction-index l.restrictions)))
    ≡ list_any asks_part (flat_map condition_of_restriction (map restriction_of l.restrictions))
