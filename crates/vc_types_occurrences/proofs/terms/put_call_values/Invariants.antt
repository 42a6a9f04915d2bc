use Rattle.std.proofs.Common.{◌≡◌, ◌++◌, drop, map, flat_map}
use Rattle.vc_types.specs.Occurrences.{values_in}
use Rattle.vc_types_occurrences.specs.Seen.{terms_seen, calls_seen}
use Rattle.vc_types_occurrences.proofs.terms.put_call_values.Given as goal

abbrev pub invariant-loop-call : goal.invariant-loop-call
invariant-loop-call l =
    terms_seen l.out ++ flat_map values_in (calls_seen (drop l.call-index l.calls))
    ≡ terms_seen l.fn.out ++ flat_map values_in (calls_seen l.calls)
