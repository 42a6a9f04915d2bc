use Rattle.std.proofs.Common.{◌≡◌, ◌++◌, drop, map, flat_map}
use Rattle.vc_syntax_tree.specs.Trees.{statement_of}
use Rattle.vc_types.specs.Occurrences.{condition_of_statement}
use Rattle.vc_types_occurrences.specs.Seen.{conditions_seen}
use Rattle.vc_types_occurrences.proofs.statements.put_statement_conditions.Given as goal

abbrev pub invariant-loop-statement : goal.invariant-loop-statement
invariant-loop-statement l =
    conditions_seen l.out ++ flat_map condition_of_statement (map statement_of (drop l.statement-index l.statements))
    ≡ conditions_seen l.fn.out ++ flat_map condition_of_statement (map statement_of l.statements)
