use Rattle.std.proofs.Common.{◌≡◌, drop, map, flat_map, Some, is_some}
use Rattle.std.specs.List.{filter_map, list_any}
use Rattle.vc_types.specs.SortFaults.{computes_with_text}
use Rattle.vc_types_meanings.specs.Seen.{seen}
use Rattle.vc_types_occurrences.specs.Seen.{terms_seen}
use Rattle.vc_types_sorts.proofs.sorts.some_computes_with_text.Given as goal

abbrev pub invariant-loop-term : goal.invariant-loop-term
invariant-loop-term l =
    list_any (computes_with_text (seen l.setting)) (terms_seen (drop l.term-index l.terms))
    ≡ list_any (computes_with_text (seen l.setting)) (terms_seen l.terms)
