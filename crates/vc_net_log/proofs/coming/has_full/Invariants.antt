-- No variable before the one at hand is of the slot and full; from it on none is of an earlier slot.
use Rattle.std.proofs.Common.{◌≡◌, ℕ, ◌-◌, ◌<◌, ◌≤◌, false, length}
use Rattle.std.specs.Prelude.{Some, slice_get}
use Rattle.vc_plan.specs.declared.plans.Var.{Var}
use Rattle.vc_net_log.proofs.ScanLaws.{fills}
use Rattle.vc_net_log.proofs.coming.has_full.Given as goal

abbrev pub invariant-loop-var : goal.invariant-loop-var
invariant-loop-var l =
    ((v : ℕ) → v < l.var → fills l.plan l.outs l.slot v ≡ false)
    × ((v : ℕ) (x : Var) → slice_get l.plan.vars v ≡ Some x → l.var ≤ v → l.slot ≤ x.slot)

abbrev pub decreases-loop-var : goal.decreases-loop-var
decreases-loop-var l = length l.vars - l.var
