-- The marks so far, with those to come, are all.
use Rattle.std.proofs.Common.{◌≡◌, length}
use Rattle.vc_net_chains.specs.Marking.{marked_each}
use Rattle.vc_net_chains.proofs.marks.mark_all.Given as goal

abbrev pub invariant-loop-rest : goal.invariant-loop-rest
invariant-loop-rest l =
    (marked_each l.count l.rest l.flags ≡ marked_each l.count l.numbers l.fn.flags)
    × (length l.flags ≡ length l.fn.flags)

abbrev pub decreases-loop-rest : goal.decreases-loop-rest
decreases-loop-rest l = length l.rest
