use Rattle.std.proofs.Common.{◌≡◌, length}
use Rattle.vc_syntax_terms.specs.ConditionReading as reads
use Rattle.vc_syntax_terms.specs.Reading.{append, single, sign, chained, listed}
use Rattle.vc_syntax_tokens.specs.declared.token.Sign.TheVariants as signs
use Rattle.vc_syntax_terms.proofs.conditions.items.Given as goal

abbrev pub invariant-loop-after : goal.invariant-loop-after
invariant-loop-after l = chained (sign signs.Comma) append (single reads.item) l.items l.rest
    ≡ listed signs.Comma reads.item l.tokens

abbrev pub decreases-loop-after : goal.decreases-loop-after
decreases-loop-after l = length l.rest
