use Rattle.std.proofs.Common.{◌≡◌, drop, map, flat_map, Some, is_some}
use Rattle.std.specs.List.{filter_map, list_any}
use Rattle.vc_types.specs.PlaceFaults.{is_computed}
use Rattle.vc_types_occurrences.specs.Seen.{calls_seen}
use Rattle.vc_types_faults.proofs.places.some_has_computed.Given as goal

abbrev pub invariant-loop-call : goal.invariant-loop-call
invariant-loop-call l =
    list_any (λ call. list_any is_computed call.bindings) (calls_seen (drop l.call-index l.calls))
    ≡ list_any (λ call. list_any is_computed call.bindings) (calls_seen l.calls)
