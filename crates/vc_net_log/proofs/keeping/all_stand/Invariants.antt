-- What is left decides.
use Rattle.std.proofs.Common.{◌≡◌, length}
use Rattle.vc_net_log.specs.Staying.{all_stand}
use Rattle.vc_net_log.proofs.keeping.all_stand.Given as goal

abbrev pub invariant-loop-rest : goal.invariant-loop-rest
invariant-loop-rest l =
    all_stand l.standing.index l.standing.facts l.rest ≡ all_stand l.standing.index l.standing.facts l.places

abbrev pub decreases-loop-rest : goal.decreases-loop-rest
decreases-loop-rest l = length l.rest
