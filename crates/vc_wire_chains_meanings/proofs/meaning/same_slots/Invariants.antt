-- What is left of both is one where both are.
use Rattle.std.proofs.Common.{◌≡◌, length}
use Rattle.vc_wire_chains_meanings.specs.Meant.{same_slots}
use Rattle.vc_wire_chains_meanings.proofs.meaning.same_slots.Given as goal

abbrev pub invariant-loop-left : goal.invariant-loop-left
invariant-loop-left l = same_slots l.left l.right ≡ same_slots l.first l.second

abbrev pub decreases-loop-left : goal.decreases-loop-left
decreases-loop-left l = length l.left
