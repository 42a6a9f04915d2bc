-- The numbers so far, with those from here on, are all.
use Rattle.std.proofs.Common.{◌≡◌, ◌+◌, ◌≤◌, ◌++◌, length}
use Rattle.vc_net_chains.specs.Leaving.{counted}
use Rattle.vc_net_chains.proofs.numbers.numbers_by.Given as goal

abbrev pub invariant-loop-rest : goal.invariant-loop-rest
invariant-loop-rest l =
    (l.numbers ++ counted l.count l.rest ≡ counted 0 l.flags) × (l.count + length l.rest ≤ length l.flags)

abbrev pub decreases-loop-rest : goal.decreases-loop-rest
decreases-loop-rest l = length l.rest
