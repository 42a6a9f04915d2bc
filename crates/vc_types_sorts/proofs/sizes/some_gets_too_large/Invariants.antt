use Rattle.std.proofs.Common.{◌≡◌, drop, map, flat_map, Some, is_some}
use Rattle.std.specs.List.{filter_map, list_any}
use Rattle.vc_types.specs.RangeFaults.{gets_too_large}
use Rattle.vc_types_meanings.specs.Seen.{seen}
use Rattle.vc_types_occurrences.specs.Seen.{terms_seen}
use Rattle.vc_types_sorts.proofs.sizes.some_gets_too_large.Given as goal

abbrev pub invariant-loop-term : goal.invariant-loop-term
invariant-loop-term l =
    list_any (gets_too_large (seen l.setting)) (terms_seen (drop l.term-index l.terms))
    ≡ list_any (gets_too_large (seen l.setting)) (terms_seen l.terms)
