use Rattle.std.proofs.Common.{◌≡◌, drop, map, flat_map, Some, is_some}
use Rattle.std.specs.List.{filter_map, list_any}
use Rattle.vc_types.specs.SortFaults.{calls_wrongly}
use Rattle.vc_types_meanings.specs.Seen.{seen}
use Rattle.vc_types_occurrences.specs.Seen.{calls_seen}
use Rattle.vc_types_sorts.proofs.sorts.some_calls_wrongly.Given as goal

abbrev pub invariant-loop-call : goal.invariant-loop-call
invariant-loop-call l =
    list_any (calls_wrongly (seen l.setting)) (calls_seen (drop l.call-index l.calls))
    ≡ list_any (calls_wrongly (seen l.setting)) (calls_seen l.calls)
