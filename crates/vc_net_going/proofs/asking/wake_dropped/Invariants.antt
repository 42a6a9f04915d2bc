-- What waits so far, with those whom the facts from here on wake, is what is to wait.
use Rattle.std.proofs.Common.{◌≡◌, length}
use Rattle.vc_plan_reasons.specs.Checking.{concluded}
use Rattle.vc_net_standing.specs.Standing.{atoms_of}
use Rattle.vc_net_waking.specs.Waking.{with_givers}
use Rattle.vc_net_going.specs.Renewing.{dropped_wake}
use Rattle.vc_net_going.proofs.asking.wake_dropped.Given as goal

abbrev pub invariant-loop-rest : goal.invariant-loop-rest
invariant-loop-rest l =
    with_givers l.agenda (dropped_wake l.plan l.sources (concluded l.log.steps) (atoms_of l.rest))
    ≡ with_givers l.fn.agenda (dropped_wake l.plan l.sources (concluded l.log.steps) (atoms_of l.facts))

abbrev pub decreases-loop-rest : goal.decreases-loop-rest
decreases-loop-rest l = length l.rest
