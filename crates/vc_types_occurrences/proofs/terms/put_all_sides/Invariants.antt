use Rattle.std.proofs.Common.{◌≡◌, ◌++◌, drop, map, flat_map}
use Rattle.vc_types.specs.Occurrences.{sides_of}
use Rattle.vc_types_occurrences.specs.Seen.{terms_seen, relations_seen}
use Rattle.vc_types_occurrences.proofs.terms.put_all_sides.Given as goal

abbrev pub invariant-loop-relation : goal.invariant-loop-relation
invariant-loop-relation l =
    terms_seen l.out ++ flat_map sides_of (relations_seen (drop l.relation-index l.relations))
    ≡ terms_seen l.fn.out ++ flat_map sides_of (relations_seen l.relations)
