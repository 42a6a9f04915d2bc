use Rattle.std.proofs.Common.{◌≡◌, ◌++◌, length, map}
use Rattle.vc_syntax_tokens.specs.declared.token.Sign.TheVariants as signs
use Rattle.vc_syntax_print.specs.ConditionLexemes.{each_behind}
use Rattle.vc_syntax_print.specs.StatementLexemes.{statement_lexemes}
use Rattle.vc_syntax_tree.specs.Trees.{statement_of}
use Rattle.vc_syntax_print.proofs.statements.put_statements_behind.Given as goal

abbrev pub invariant-loop-rest : goal.invariant-loop-rest
invariant-loop-rest l = l.out ++ each_behind signs.Comma statement_lexemes (map statement_of l.rest)
    ≡ l.fn.out ++ each_behind signs.Comma statement_lexemes (map statement_of l.statements)

abbrev pub decreases-loop-rest : goal.decreases-loop-rest
decreases-loop-rest l = length l.rest
