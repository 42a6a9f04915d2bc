use Rattle.std.proofs.Common.{◌≡◌, length}
use Rattle.vc_model_lines.specs.WordSpellings.{has_control}
use Rattle.vc_model_lines.proofs.spelling.has_control.Given as goal

abbrev pub invariant-loop-rest : goal.invariant-loop-rest
invariant-loop-rest l = has_control l.rest ≡ has_control l.text

abbrev pub decreases-loop-rest : goal.decreases-loop-rest
decreases-loop-rest l = length l.rest
