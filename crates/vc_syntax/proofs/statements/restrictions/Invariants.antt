use Rattle.std.proofs.Common.{◌≡◌, length, map}
use Rattle.vc_syntax_terms.specs.Reading.{append, single, sign, chained, listed}
use Rattle.vc_syntax.specs.StatementReading as reads
use Rattle.vc_syntax_tree.specs.Trees.{restriction_of}
use Rattle.vc_syntax_tokens.specs.declared.token.Sign.TheVariants as signs
use Rattle.vc_syntax.proofs.statements.restrictions.Given as goal

abbrev pub invariant-loop-after : goal.invariant-loop-after
invariant-loop-after l =
    chained (sign signs.Comma) append (single (reads.restriction l.left)) (map restriction_of l.restrictions) l.rest
    ≡ listed signs.Comma (reads.restriction l.left) l.tokens

abbrev pub decreases-loop-after : goal.decreases-loop-after
decreases-loop-after l = length l.rest
