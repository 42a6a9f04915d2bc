use Rattle.std.proofs.Common.{◌≡◌, ◌++◌, drop, map, flat_map}
use Rattle.vc_syntax_tree.specs.Trees.{statement_of}
use Rattle.vc_types.specs.Occurrences.{as_value, target_of}
use Rattle.vc_types_meanings.specs.Seen.{seen}
use Rattle.vc_types_occurrences.specs.Met.{all_met}
use Rattle.vc_types_occurrences.proofs.uses.put_targets.Given as goal

abbrev pub invariant-loop-statement : goal.invariant-loop-statement
invariant-loop-statement l =
    l.out ++ all_met (seen l.setting)
    (map as_value (flat_map (λ statement. target_of statement.action)
    (map statement_of (drop l.statement-index l.statements))))
    ≡ l.fn.out ++ all_met (seen l.setting)
    (map as_value (flat_map (λ statement. target_of statement.action) (map statement_of l.statements)))
