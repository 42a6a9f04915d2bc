use Rattle.std.proofs.Common.{◌≡◌, ◌++◌, length}
use Rattle.vc_syntax_tokens.specs.declared.token.Sign.TheVariants as signs
use Rattle.vc_syntax_print.specs.ConditionLexemes.{each_behind}
use Rattle.vc_syntax_print.specs.ConditionLexemes.{item_lexemes}
use Rattle.vc_syntax_print.proofs.conditions.put_items_behind.Given as goal

abbrev pub invariant-loop-rest : goal.invariant-loop-rest
invariant-loop-rest l = l.out ++ each_behind signs.Comma item_lexemes l.rest
    ≡ l.fn.out ++ each_behind signs.Comma item_lexemes l.items

abbrev pub decreases-loop-rest : goal.decreases-loop-rest
decreases-loop-rest l = length l.rest
