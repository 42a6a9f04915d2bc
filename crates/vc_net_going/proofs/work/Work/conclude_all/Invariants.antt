-- The turn so far: nothing came yet, or the giver is asked again.
use Rattle.std.proofs.Common.{◌-◌, ◌≤◌}
use Rattle.vc_net_agenda.specs.Agendas.{meant}
use Rattle.vc_net_going.proofs.TurnLaws.{IsTurning}
use Rattle.vc_net_going.proofs.work.Work.conclude_all.Given as goal

abbrev pub invariant-loop-place : goal.invariant-loop-place
invariant-loop-place l =
    IsTurning l.plan l.sources (meant l.giver) l.fn.self l.self l.place × (l.place ≤ l.count)

abbrev pub decreases-loop-place : goal.decreases-loop-place
decreases-loop-place l = l.count - l.place
