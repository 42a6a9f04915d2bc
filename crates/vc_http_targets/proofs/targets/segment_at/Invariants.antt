use Rattle.std.proofs.Common.{◌≡◌}
use Rattle.std.specs.Prelude.{slice_get}
use Rattle.std.specs.List.{slice_split}
use Rattle.vc_http_routes.specs.Routes.{is_slash}
use Rattle.vc_http_targets.proofs.targets.segment_at.Given as goal

abbrev pub invariant-loop-left : goal.invariant-loop-left
invariant-loop-left l =
    slice_get (slice_split is_slash l.rest) l.left ≡ slice_get (slice_split is_slash l.path) l.place

abbrev pub decreases-loop-left : goal.decreases-loop-left
decreases-loop-left l = l.left
