-- What is raised so far, with the rules from here on, is all.
use Rattle.std.proofs.Common.{◌≡◌, max, length}
use Rattle.vc_plan.specs.Bounds.{clash_bound, greatest}
use Rattle.vc_net_places.specs.Cells.{all_places}
use Rattle.vc_net_bounds.specs.Capping.{capped}
use Rattle.vc_net_bounds.specs.Keeping.{IsKept}
use Rattle.vc_net_bounds.specs.Raising.{raised_by_rules}
use Rattle.vc_net_bounds.proofs.bounds.take_rules.Given as goal

abbrev pub invariant-loop-rest : goal.invariant-loop-rest
invariant-loop-rest l =
    (raised_by_rules l.plan l.rest l.bounds.places
    ≡ raised_by_rules l.plan l.plan.rules l.initial.bounds.places)
    × ((max l.bounds.clash (capped (greatest (clash_bound l.plan) l.rest))
    ≡ max l.initial.bounds.clash (capped (greatest (clash_bound l.plan) l.plan.rules)))
    × ((length l.bounds.places ≡ length (all_places l.plan)) × IsKept l.plan l.kept))

abbrev pub decreases-loop-rest : goal.decreases-loop-rest
decreases-loop-rest l = length l.rest
