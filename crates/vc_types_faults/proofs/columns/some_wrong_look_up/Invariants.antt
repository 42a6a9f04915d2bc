use Rattle.std.proofs.Common.{◌≡◌, drop, map, flat_map, Some, is_some}
use Rattle.std.specs.List.{filter_map, list_any}
use Rattle.vc_types.specs.Looking.{table_named}
use Rattle.vc_types.specs.PlaceFaults.{looks_up_wrongly}
use Rattle.vc_types_meanings.specs.Seen.{seen}
use Rattle.vc_types_occurrences.specs.Seen.{calls_seen}
use Rattle.vc_types_faults.proofs.columns.some_wrong_look_up.Given as goal

abbrev pub invariant-loop-call : goal.invariant-loop-call
invariant-loop-call l =
    list_any (λ call. looks_up_wrongly (seen l.setting) call (table_named (seen l.setting).model call.table.name))
    (calls_seen (drop l.call-index l.calls))
    ≡ list_any (λ call. looks_up_wrongly (seen l.setting) call (table_named (seen l.setting).model call.table.name))
    (calls_seen l.calls)
