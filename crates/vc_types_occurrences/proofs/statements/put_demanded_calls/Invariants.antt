use Rattle.std.proofs.Common.{◌≡◌, ◌++◌, drop, map, flat_map}
use Rattle.vc_syntax_tree.specs.Trees.{restriction_of}
use Rattle.vc_types.specs.Occurrences.{call_of_demand}
use Rattle.vc_types_occurrences.specs.Seen.{calls_seen}
use Rattle.vc_types_occurrences.proofs.statements.put_demanded_calls.Given as goal

abbrev pub invariant-loop-restriction : goal.invariant-loop-restriction
invariant-loop-restriction l =
    calls_seen l.out ++ flat_map (λ r. call_of_demand r.demand)
    (map restriction_of (drop l.restriction-index l.restrictions))
    ≡ calls_seen l.fn.out ++ flat_map (λ r. call_of_demand r.demand) (map restriction_of l.restrictions)
