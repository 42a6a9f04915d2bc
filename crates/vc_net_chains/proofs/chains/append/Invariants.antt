-- The numbers so far, with those from here on, are all.
use Rattle.std.proofs.Common.{◌≡◌, ◌++◌, length}
use Rattle.vc_net_chains.proofs.chains.append.Given as goal

abbrev pub invariant-loop-rest : goal.invariant-loop-rest
invariant-loop-rest l = l.numbers ++ l.rest ≡ l.fn.numbers ++ l.more

abbrev pub decreases-loop-rest : goal.decreases-loop-rest
decreases-loop-rest l = length l.rest
