use Rattle.std.proofs.Common.{◌≡◌, true, length}
use Rattle.std.specs.Str.Lines.{lines}
use Rattle.vc_model_lines.specs.Classified.{lines_from}
use Rattle.vc_model_scope.specs.LookAhead as ahead
use Rattle.vc_model_scope.proofs.look_ahead.has_long_line.Given as goal

abbrev pub invariant-loop-raw : goal.invariant-loop-raw
invariant-loop-raw l = ahead.has_long_line (lines_from true (lines l.rest))
    ≡ ahead.has_long_line (lines_from true (lines l.block))

abbrev pub decreases-loop-raw : goal.decreases-loop-raw
decreases-loop-raw l = length l.rest
