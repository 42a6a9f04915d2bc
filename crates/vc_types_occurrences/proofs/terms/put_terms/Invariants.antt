use Rattle.std.proofs.Common.{◌≡◌, ◌++◌, drop, map, flat_map}
use Rattle.vc_types_occurrences.specs.Seen.{terms_seen}
use Rattle.vc_types_occurrences.proofs.terms.put_terms.Given as goal

abbrev pub invariant-loop-term : goal.invariant-loop-term
invariant-loop-term l =
    terms_seen l.out ++ (terms_seen (drop l.term-index l.terms))
    ≡ terms_seen l.fn.out ++ (terms_seen l.terms)
