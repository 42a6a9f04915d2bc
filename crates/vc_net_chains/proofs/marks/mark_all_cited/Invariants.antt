-- The marks so far, with those of the steps that are left, are all.
use Rattle.std.proofs.Common.{◌≡◌, ◌≤◌, length}
use Rattle.vc_net_chains.specs.Marking.{with_all_cited}
use Rattle.vc_net_chains.proofs.marks.mark_all_cited.Given as goal

abbrev pub invariant-loop-left : goal.invariant-loop-left
invariant-loop-left l =
    (with_all_cited l.log.steps l.left l.flags ≡ with_all_cited l.log.steps l.count l.fn.flags)
    × (length l.flags ≡ length l.fn.flags) × (l.left ≤ l.count)

abbrev pub decreases-loop-left : goal.decreases-loop-left
decreases-loop-left l = l.left
