use Rattle.std.proofs.Common.{◌≡◌, ◌++◌, drop, map, flat_map}
use Rattle.vc_syntax_tree.specs.Trees.{statement_of}
use Rattle.vc_types.specs.Occurrences.{term_of_action}
use Rattle.vc_types_occurrences.specs.Seen.{terms_seen}
use Rattle.vc_types_occurrences.proofs.statements.put_statement_terms.Given as goal

abbrev pub invariant-loop-statement : goal.invariant-loop-statement
invariant-loop-statement l =
    terms_seen l.out ++ flat_map (λ s. term_of_action s.action) (map statement_of (drop l.statement-index l.statements))
    ≡ terms_seen l.fn.out ++ flat_map (λ s. term_of_action s.action) (map statement_of l.statements)
