-- What is put is found from the slots past the one at hand.
use Rattle.std.proofs.Common.{◌≡◌, ◌≤◌, length}
use Rattle.vc_bill.specs.Components.{components_from}
use Rattle.vc_bill.proofs.components.components_of.Given as goal

abbrev pub invariant-loop-number : goal.invariant-loop-number
invariant-loop-number l = (l.table ≡ components_from l.plan l.number) × (l.number ≤ length l.plan.slots)

abbrev pub decreases-loop-number : goal.decreases-loop-number
decreases-loop-number l = l.number
