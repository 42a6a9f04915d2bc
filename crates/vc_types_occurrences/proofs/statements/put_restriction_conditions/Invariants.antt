use Rattle.std.proofs.Common.{◌≡◌, ◌++◌, drop, map, flat_map}
use Rattle.vc_syntax_tree.specs.Trees.{restriction_of}
use Rattle.vc_types.specs.Occurrences.{condition_of_restriction}
use Rattle.vc_types_occurrences.specs.Seen.{conditions_seen}
use Rattle.vc_types_occurrences.proofs.statements.put_restriction_conditions.Given as goal

abbrev pub invariant-loop-restriction : goal.invariant-loop-restriction
invariant-loop-restriction l =
    conditions_seen l.out
    ++ flat_map condition_of_restriction (map restriction_of (drop l.restriction-index l.restrictions))
    ≡ conditions_seen l.fn.out ++ flat_map condition_of_restriction (map restriction_of l.restrictions)
