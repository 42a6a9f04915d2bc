-- The steps so far, with those that are left from here on, are all.
use Rattle.std.proofs.Common.{◌≡◌, ◌+◌, ◌++◌, length}
use Rattle.vc_net_chains.specs.Leaving.{all_left}
use Rattle.vc_net_chains.proofs.steps.steps_left.Given as goal

abbrev pub invariant-loop-rest : goal.invariant-loop-rest
invariant-loop-rest l =
    (l.steps ++ all_left l.numbers l.log.steps l.place l.rest ≡ all_left l.numbers l.log.steps 0 l.flags)
    × (l.place + length l.rest ≡ length l.flags)

abbrev pub decreases-loop-rest : goal.decreases-loop-rest
decreases-loop-rest l = length l.rest
