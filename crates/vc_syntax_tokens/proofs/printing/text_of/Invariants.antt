use Rattle.std.proofs.Common.{◌≡◌, ◌++◌, length}
use Rattle.vc_syntax_tokens.specs.Texts.{text_of}
use Rattle.vc_syntax_tokens.proofs.printing.text_of.Given as goal

abbrev pub invariant-loop-rest : goal.invariant-loop-rest
invariant-loop-rest l = l.text ++ text_of l.rest ≡ text_of l.lexemes

abbrev pub decreases-loop-rest : goal.decreases-loop-rest
decreases-loop-rest l = length l.rest
