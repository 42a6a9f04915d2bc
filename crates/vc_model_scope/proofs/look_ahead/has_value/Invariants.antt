use Rattle.std.proofs.Common.{◌≡◌, false, length}
use Rattle.std.specs.Str.Lines.{lines}
use Rattle.vc_model_lines.specs.Classified.{lines_from}
use Rattle.vc_model_scope.specs.LookAhead as ahead
use Rattle.vc_model_scope.proofs.look_ahead.has_value.Given as goal

abbrev pub invariant-loop-raw : goal.invariant-loop-raw
invariant-loop-raw l = ahead.has_value (lines_from l.inside (lines l.rest))
    ≡ ahead.has_value (lines_from false (lines l.below))

abbrev pub decreases-loop-raw : goal.decreases-loop-raw
decreases-loop-raw l = length l.rest
