use Rattle.std.proofs.Common.{◌≡◌, ◌++◌, drop, map, flat_map}
use Rattle.vc_types.specs.Occurrences.{uses_of_term}
use Rattle.vc_types_occurrences.specs.Seen.{terms_seen}
use Rattle.vc_types_meanings.specs.Seen.{seen}
use Rattle.vc_types_occurrences.specs.Met.{all_met}
use Rattle.vc_types_occurrences.proofs.uses.put_terms_uses.Given as goal

abbrev pub invariant-loop-term : goal.invariant-loop-term
invariant-loop-term l =
    l.out ++ all_met (seen l.setting) (flat_map uses_of_term (terms_seen (drop l.term-index l.terms)))
    ≡ l.fn.out ++ all_met (seen l.setting) (flat_map uses_of_term (terms_seen l.terms))
