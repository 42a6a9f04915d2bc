use Rattle.std.proofs.Common.{◌≡◌, false, length}
use Rattle.std.specs.Str.Lines.{lines}
use Rattle.vc_model_lines.specs.Classified.{lines_from}
use Rattle.std.specs.List.{list_any}
use Rattle.vc_model_scope.specs.Stands.{counts}
use Rattle.vc_model_scope.proofs.look_ahead.one_counts.Given as goal

abbrev pub invariant-loop-raw : goal.invariant-loop-raw
invariant-loop-raw l = list_any counts (lines_from l.inside (lines l.rest))
    ≡ list_any counts (lines_from false (lines l.below))

abbrev pub decreases-loop-raw : goal.decreases-loop-raw
decreases-loop-raw l = length l.rest
