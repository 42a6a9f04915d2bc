-- Whom the atoms to come blame is whom all blame: those before blame nobody.
use Rattle.std.proofs.Common.{◌≡◌, length}
use Rattle.vc_net_blame.specs.Searching.{first_blamed}
use Rattle.vc_net_blame.proofs.culprits.first_blamed.Given as goal

abbrev pub invariant-loop-rest : goal.invariant-loop-rest
invariant-loop-rest l =
    first_blamed l.plan l.standing.facts l.last l.rest ≡ first_blamed l.plan l.standing.facts l.last l.atoms

abbrev pub decreases-loop-rest : goal.decreases-loop-rest
decreases-loop-rest l = length l.rest
