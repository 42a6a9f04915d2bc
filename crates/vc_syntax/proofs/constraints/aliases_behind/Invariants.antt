use Rattle.std.proofs.Common.{◌≡◌, length}
use Rattle.vc_syntax.specs.ConstraintReading as reads
use Rattle.vc_syntax_terms.specs.Reading.{append, single, sign, chained, listed}
use Rattle.vc_syntax_tokens.specs.declared.token.Sign.TheVariants as signs
use Rattle.vc_syntax.proofs.constraints.aliases_behind.Given as goal

abbrev pub invariant-loop-after : goal.invariant-loop-after
invariant-loop-after l = chained (sign signs.Semicolon) append (single reads.alias) l.aliases l.rest
    ≡ listed signs.Semicolon reads.alias l.tokens

abbrev pub decreases-loop-after : goal.decreases-loop-after
decreases-loop-after l = length l.rest
