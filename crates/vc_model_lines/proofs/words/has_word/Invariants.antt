use Rattle.std.proofs.Common.{◌≡◌, length, map}
use Rattle.vc_model_lines.specs.LineWords.{has_word}
use Rattle.vc_model_lines.proofs.words.has_word.Given as goal

abbrev pub invariant-loop-rest : goal.invariant-loop-rest
invariant-loop-rest l = has_word l.wanted (map (λ word. word.now) l.rest)
    ≡ has_word l.wanted (map (λ word. word.now) l.words)

abbrev pub decreases-loop-rest : goal.decreases-loop-rest
decreases-loop-rest l = length l.rest
