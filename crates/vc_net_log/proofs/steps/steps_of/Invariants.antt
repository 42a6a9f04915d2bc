-- The steps so far, with those of the facts from here on, are all.
use Rattle.std.proofs.Common.{◌≡◌, ◌++◌, true, length, map}
use Rattle.std.specs.Prelude.{nat_lt}
use Rattle.std.specs.List.{list_all}
use Rattle.vc_net_standing.specs.Standing.{places_of}
use Rattle.vc_net_log.specs.Keeping.{log_kept, step_kept}
use Rattle.vc_net_log.proofs.steps.steps_of.Given as goal

abbrev pub invariant-loop-rest : goal.invariant-loop-rest
invariant-loop-rest l =
    (l.steps ++ map (step_kept l.standing l.cells l.counts l.premises) l.rest
    ≡ (log_kept l.standing l.cells l.counts l.premises).steps)
    × (list_all (λ p. nat_lt p (length l.standing.index.things)) (places_of l.standing.index l.rest) ≡ true)

abbrev pub decreases-loop-rest : goal.decreases-loop-rest
decreases-loop-rest l = length l.rest
