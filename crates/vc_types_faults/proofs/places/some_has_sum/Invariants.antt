use Rattle.std.proofs.Common.{◌≡◌, drop, map, flat_map, Some, is_some}
use Rattle.std.specs.List.{filter_map, list_any}
use Rattle.vc_types.specs.Occurrences.{has_sum}
use Rattle.vc_types_occurrences.specs.Seen.{terms_seen}
use Rattle.vc_types_faults.proofs.places.some_has_sum.Given as goal

abbrev pub invariant-loop-term : goal.invariant-loop-term
invariant-loop-term l =
    list_any has_sum (terms_seen (drop l.term-index l.terms))
    ≡ list_any has_sum (terms_seen l.terms)
