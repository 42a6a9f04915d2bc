use Rattle.std.proofs.Common.{◌≡◌}
use Rattle.vc_model_lines.specs.LineWords.{after_words}
use Rattle.vc_model_lines.proofs.words.after_words.Given as goal

abbrev pub invariant-loop-left : goal.invariant-loop-left
invariant-loop-left l = after_words l.left l.rest ≡ after_words l.count l.line

abbrev pub decreases-loop-left : goal.decreases-loop-left
decreases-loop-left l = l.left
