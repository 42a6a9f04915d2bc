use Rattle.std.proofs.Common.{◌≡◌, ◌++◌, length, map}
use Rattle.vc_syntax_tokens.specs.declared.token.Sign.TheVariants as signs
use Rattle.vc_syntax_print.specs.ConditionLexemes.{each_behind}
use Rattle.vc_syntax_print.specs.StatementLexemes.{restriction_lexemes}
use Rattle.vc_syntax_tree.specs.Trees.{restriction_of}
use Rattle.vc_syntax_print.proofs.statements.put_restrictions_behind.Given as goal

abbrev pub invariant-loop-rest : goal.invariant-loop-rest
invariant-loop-rest l = l.out ++ each_behind signs.Comma restriction_lexemes (map restriction_of l.rest)
    ≡ l.fn.out ++ each_behind signs.Comma restriction_lexemes (map restriction_of l.restrictions)

abbrev pub decreases-loop-rest : goal.decreases-loop-rest
decreases-loop-rest l = length l.rest
