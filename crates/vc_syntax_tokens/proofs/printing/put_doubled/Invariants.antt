use Rattle.std.proofs.Common.{◌≡◌, ◌++◌, length}
use Rattle.vc_syntax_tokens.specs.Texts.{doubled}
use Rattle.vc_syntax_tokens.proofs.printing.put_doubled.Given as goal

abbrev pub invariant-loop-rest : goal.invariant-loop-rest
invariant-loop-rest l = l.out ++ doubled l.rest ≡ l.fn.out ++ doubled l.text

abbrev pub decreases-loop-rest : goal.decreases-loop-rest
decreases-loop-rest l = length l.rest
