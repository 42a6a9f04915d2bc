-- The first that is refused from here on is the first of all.
use Rattle.std.proofs.Common.{◌≡◌, ◌-◌, ◌≤◌, drop, length, take}
use Rattle.vc_base.specs.Chains.{first_refused}
use Rattle.vc_plan_reasons.specs.Checking.{concluded, first_refused_step, follows, step_form}
use Rattle.vc_check.proofs.accepting.first_refused_on.Given as goal

abbrev pub invariant-loop-step : goal.invariant-loop-step
invariant-loop-step l =
    (first_refused step_form (follows l.plan l.sources) (concluded (take l.place l.list)) (drop l.place l.list)
    ≡ first_refused_step l.plan l.sources l.list)
    × (l.place ≤ length l.list)

abbrev pub decreases-loop-step : goal.decreases-loop-step
decreases-loop-step l = length l.list - l.place
