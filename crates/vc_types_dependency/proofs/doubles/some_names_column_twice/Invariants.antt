use Rattle.std.proofs.Common.{◌≡◌, drop}
use Rattle.std.specs.List.{list_any}
use Rattle.vc_types.specs.NameFaults.{names_column_twice}
use Rattle.vc_types_occurrences.specs.Seen.{calls_seen}
use Rattle.vc_types_dependency.proofs.doubles.some_names_column_twice.Given as goal

abbrev pub invariant-loop-call : goal.invariant-loop-call
invariant-loop-call l = list_any names_column_twice (calls_seen (drop l.call-index l.calls))
    ≡ list_any names_column_twice (calls_seen l.calls)
