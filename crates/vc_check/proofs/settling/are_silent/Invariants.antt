-- What the givers to come say is what all say: those before are silent.
use Rattle.std.proofs.Common.{◌≡◌, ◌-◌, ◌≤◌}
use Rattle.std.specs.List.{list_all, range_with_len}
use Rattle.vc_plan.specs.Domains.{numbers_below}
use Rattle.vc_check.specs.Families.{is_silent_in}
use Rattle.vc_check.proofs.settling.are_silent.Given as goal

abbrev pub invariant-loop-number : goal.invariant-loop-number
invariant-loop-number l =
    (list_all (is_silent_in l.plan l.sources l.family l.set) (range_with_len l.number (l.count - l.number))
    ≡ list_all (is_silent_in l.plan l.sources l.family l.set) (numbers_below l.count))
    × (l.number ≤ l.count)

abbrev pub decreases-loop-number : goal.decreases-loop-number
decreases-loop-number l = l.count - l.number
