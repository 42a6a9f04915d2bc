use Rattle.std.proofs.Common.{◌≡◌, ◌++◌, false, length, map}
use Rattle.vc_model_lines.specs.LineWords.{words}
use Rattle.vc_model_lines.proofs.WordParts.{begins_with_space}
use Rattle.vc_model_lines.proofs.words.words.Given as goal

abbrev pub invariant-loop-rest : goal.invariant-loop-rest
invariant-loop-rest l = record {
  said : map (λ word. word.now) l.words.items ++ words l.rest ≡ words l.line;
  free : begins_with_space l.rest ≡ false;
}

abbrev pub decreases-loop-rest : goal.decreases-loop-rest
decreases-loop-rest l = length l.rest
