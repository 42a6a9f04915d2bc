use Rattle.std.proofs.Common.{◌≡◌, ◌++◌, drop, map, flat_map}
use Rattle.vc_syntax_tree.specs.Trees.{statement_of}
use Rattle.vc_types.specs.Occurrences.{call_of_action}
use Rattle.vc_types_occurrences.specs.Seen.{calls_seen}
use Rattle.vc_types_occurrences.proofs.statements.put_statement_calls.Given as goal

abbrev pub invariant-loop-statement : goal.invariant-loop-statement
invariant-loop-statement l =
    calls_seen l.out ++ flat_map (λ s. call_of_action s.action) (map statement_of (drop l.statement-index l.statements))
    ≡ calls_seen l.fn.out ++ flat_map (λ s. call_of_action s.action) (map statement_of l.statements)
