-- The work goes on, and nothing broke it.
use Rattle.std.proofs.Common.{◌≡◌, []}
use Rattle.std.specs.Prelude.{None}
use Rattle.vc_rule.specs.Rooms.{rooms_of}
use Rattle.vc_net_going.specs.Going.{BeginsWith, IsGoing, turns_of}
use Rattle.vc_net.specs.Spending.{GoesOnSpending}
use Rattle.vc_net.proofs.settling.settle.Given as goal

abbrev pub invariant-loop-giver : goal.invariant-loop-giver
invariant-loop-giver g l =
    IsGoing l.plan l.sources l.work [] × (l.out.rooms ≡ rooms_of l.plan) × (l.work.breaker.culprit ≡ None)
    × BeginsWith l.fn.work.log.steps l.work.log.steps
    × GoesOnSpending l.plan l.fn.work l.work l.fn.steps l.steps

abbrev pub decreases-loop-giver : goal.decreases-loop-giver
decreases-loop-giver g l = turns_of l.plan l.work
