use Rattle.std.proofs.Common.{◌≡◌, ◌++◌, length, map}
use Rattle.vc_net_standing.specs.Standing.{places_of}
use Rattle.vc_net_log.specs.Keeping.{number_at}
use Rattle.vc_net_log.proofs.steps.numbers_at.Given as goal

abbrev pub invariant-loop-rest : goal.invariant-loop-rest
invariant-loop-rest l =
    l.numbers ++ map (number_at (places_of l.standing.index l.standing.facts)) l.rest
    ≡ map (number_at (places_of l.standing.index l.standing.facts)) l.places

abbrev pub decreases-loop-rest : goal.decreases-loop-rest
decreases-loop-rest l = length l.rest
