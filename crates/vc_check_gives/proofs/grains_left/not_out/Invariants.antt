-- What is counted so far, with the grains that are to come, is all that is to be counted.
use Rattle.std.proofs.Common.{◌≡◌, ℕ, ◌-◌, ◌≤◌, Bool, not}
use Rattle.std.specs.List.{filter, range_with_len}
use Rattle.vc_plan.specs.Gives.{not_out}
use Rattle.vc_check_gives.specs.Counting.{counted, remaining_of}
use Rattle.vc_check_gives.proofs.grains_left.not_out.Given as goal

abbrev pub invariant-loop-grain : goal.invariant-loop-grain
invariant-loop-grain g l =
    let test : ℕ → Bool = λ n. not ((g.V.View.seen l.view).out l.var n) in
    (counted l.remaining (filter test (range_with_len l.grain (l.count - l.grain)))
    ≡ remaining_of (not_out l.plan (g.V.View.seen l.view) l.var))
    × (l.grain ≤ l.count)

abbrev pub decreases-loop-grain : goal.decreases-loop-grain
decreases-loop-grain g l = l.count - l.grain
