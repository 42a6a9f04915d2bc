use Rattle.std.proofs.Common.{◌≡◌, ◌++◌, drop, map, flat_map}
use Rattle.vc_syntax_tree.specs.Trees.{restriction_of}
use Rattle.vc_types.specs.Occurrences.{relation_of_demand}
use Rattle.vc_types_occurrences.specs.Seen.{relations_seen}
use Rattle.vc_types_occurrences.proofs.statements.put_demanded_relations.Given as goal

abbrev pub invariant-loop-restriction : goal.invariant-loop-restriction
invariant-loop-restriction l =
    relations_seen l.out
    ++ flat_map (λ r. relation_of_demand r.demand) (map restriction_of (drop l.restriction-index l.restrictions))
    ≡ relations_seen l.fn.out ++ flat_map (λ r. relation_of_demand r.demand) (map restriction_of l.restrictions)
