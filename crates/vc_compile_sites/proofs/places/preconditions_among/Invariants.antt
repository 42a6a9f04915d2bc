use Rattle.std.proofs.Common.{◌≡◌, ◌++◌, drop, map}
use Rattle.vc_compile_plan.specs.Places.{preconditions_among}
use Rattle.vc_compile_layout.specs.Standing.{layout_seen}
use Rattle.vc_compile_sites.specs.Standing.{asked_seen}
use Rattle.vc_compile_sites.proofs.places.preconditions_among.Given as goal

abbrev pub invariant-loop-number : goal.invariant-loop-number
invariant-loop-number l =
    map asked_seen l.all ++ preconditions_among (layout_seen l.layout).model (drop l.number-index l.uses)
    ≡ preconditions_among (layout_seen l.layout).model l.uses
