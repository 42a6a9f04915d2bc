use Rattle.std.proofs.Common.{◌≡◌, length, map}
use Rattle.vc_syntax_terms.specs.Reading.{append, single, sign, chained, listed}
use Rattle.vc_syntax.specs.StatementReading as reads
use Rattle.vc_syntax_tree.specs.Trees.{binding_of}
use Rattle.vc_syntax_tokens.specs.declared.token.Sign.TheVariants as signs
use Rattle.vc_syntax.proofs.statements.bindings.Given as goal

abbrev pub invariant-loop-after : goal.invariant-loop-after
invariant-loop-after l =
    chained (sign signs.Comma) append (single (reads.binding l.left)) (map binding_of l.bindings) l.rest
    ≡ listed signs.Comma (reads.binding l.left) l.tokens

abbrev pub decreases-loop-after : goal.decreases-loop-after
decreases-loop-after l = length l.rest
