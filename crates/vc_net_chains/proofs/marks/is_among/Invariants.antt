-- The number is among those from here on if it is among all.
use Rattle.std.proofs.Common.{◌≡◌, length}
use Rattle.vc_base.specs.Chains.{is_among}
use Rattle.vc_net_chains.proofs.marks.is_among.Given as goal

abbrev pub invariant-loop-rest : goal.invariant-loop-rest
invariant-loop-rest l = is_among l.number l.rest ≡ is_among l.number l.numbers

abbrev pub decreases-loop-rest : goal.decreases-loop-rest
decreases-loop-rest l = length l.rest
