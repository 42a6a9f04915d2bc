use Rattle.std.proofs.Common.{◌≡◌, ◌++◌, drop, map, flat_map}
use Rattle.vc_types.specs.Occurrences.{summed_in}
use Rattle.vc_types_occurrences.specs.Seen.{leaves_seen, terms_seen}
use Rattle.vc_types_occurrences.proofs.terms.put_all_summed.Given as goal

abbrev pub invariant-loop-term : goal.invariant-loop-term
invariant-loop-term l =
    leaves_seen l.out ++ flat_map summed_in (terms_seen (drop l.term-index l.terms))
    ≡ leaves_seen l.fn.out ++ flat_map summed_in (terms_seen l.terms)
