use Rattle.std.proofs.Common.{◌≡◌, ◌++◌, drop, map, flat_map}
use Rattle.vc_syntax_tree.specs.Trees.{statement_of}
use Rattle.vc_compile_plan.specs.Texts.{texts_in_statement}
use Rattle.vc_compile_uses.specs.Growing.{texts_seen}
use Rattle.vc_compile_uses.proofs.mentions.put_statements.Given as goal

abbrev pub invariant-loop-statement : goal.invariant-loop-statement
invariant-loop-statement l =
    texts_seen l.out ++ flat_map texts_in_statement (map statement_of (drop l.statement-index l.statements))
    ≡ texts_seen l.fn.out ++ flat_map texts_in_statement (map statement_of l.statements)
