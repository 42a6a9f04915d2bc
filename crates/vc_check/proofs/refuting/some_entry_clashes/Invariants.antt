-- What those from here on say is what all say: those before don't decide it.
use Rattle.std.proofs.Common.{◌≡◌, ◌-◌, ◌≤◌, length}
use Rattle.std.specs.List.{list_any, range_with_len}
use Rattle.vc_plan.specs.Domains.{numbers_below}
use Rattle.vc_plan_reasons.specs.Refuting.{entry_clashes}
use Rattle.vc_check.proofs.refuting.some_entry_clashes.Given as goal

abbrev pub invariant-loop-var : goal.invariant-loop-var
invariant-loop-var l =
    (list_any (entry_clashes l.plan l.sources l.by.0 l.by.1 l.set) (range_with_len l.var (l.count - l.var))
    ≡ list_any (entry_clashes l.plan l.sources l.by.0 l.by.1 l.set) (numbers_below (length l.plan.vars)))
    × (l.var ≤ l.count)

abbrev pub decreases-loop-var : goal.decreases-loop-var
decreases-loop-var l = l.count - l.var
