use Rattle.std.proofs.Common.{◌≡◌, length}
use Rattle.vc_model_lines.specs.LineWords.{without_spaces_before}
use Rattle.vc_model_lines.proofs.words.without_spaces_before.Given as goal

abbrev pub invariant-loop-rest : goal.invariant-loop-rest
invariant-loop-rest l = without_spaces_before l.rest ≡ without_spaces_before l.bytes

abbrev pub decreases-loop-rest : goal.decreases-loop-rest
decreases-loop-rest l = length l.rest
