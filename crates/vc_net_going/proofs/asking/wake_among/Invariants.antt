-- What waits so far, with those of the variables from here on that differ, is what is to wait.
use Rattle.std.proofs.Common.{◌≡◌, length}
use Rattle.vc_net_waking.specs.Waking.{with_givers}
use Rattle.vc_net_going.specs.Renewing.{changed_among}
use Rattle.vc_net_going.proofs.asking.wake_among.Given as goal

abbrev pub invariant-loop-rest : goal.invariant-loop-rest
invariant-loop-rest l =
    with_givers l.agenda (changed_among l.old l.new l.rest) ≡ with_givers l.fn.agenda (changed_among l.old l.new l.vars)

abbrev pub decreases-loop-rest : goal.decreases-loop-rest
decreases-loop-rest l = length l.rest
