-- The new numbers so far, with those from here on, are all.
use Rattle.std.proofs.Common.{◌≡◌, ◌++◌, length, map}
use Rattle.vc_net_log.specs.Numbers.{number_by_place, premises_of}
use Rattle.vc_net_chains.specs.Leaving.{number_in}
use Rattle.vc_net_chains.proofs.steps.premises_left.Given as goal

abbrev pub invariant-loop-rest : goal.invariant-loop-rest
invariant-loop-rest l =
    l.left ++ map (number_in l.numbers) (map (number_by_place l.log) l.rest)
    ≡ map (number_in l.numbers) (premises_of l.log.steps l.place)

abbrev pub decreases-loop-rest : goal.decreases-loop-rest
decreases-loop-rest l = length l.rest
