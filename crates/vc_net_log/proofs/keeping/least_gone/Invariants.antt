-- The least so far, or of those from here on, is the least of all.
use Rattle.std.proofs.Common.{◌≡◌, length}
use Rattle.vc_net_log.specs.Differing.{least_gone}
use Rattle.vc_net_log.specs.Staying.{differs}
use Rattle.vc_net_log.proofs.keeping.least_gone.Given as goal

abbrev pub invariant-loop-rest : goal.invariant-loop-rest
invariant-loop-rest l =
    least_gone l.standing.index (differs l.old l.new) l.standing.facts l.least l.rest
    ≡ least_gone l.standing.index (differs l.old l.new) l.standing.facts l.number l.vars

abbrev pub decreases-loop-rest : goal.decreases-loop-rest
decreases-loop-rest l = length l.rest
