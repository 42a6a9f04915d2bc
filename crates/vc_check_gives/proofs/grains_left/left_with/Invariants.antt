-- What is counted so far, with the grains that are to come, is all that is to be counted.
use Rattle.std.proofs.Common.{◌≡◌, ℕ, ◌-◌, ◌≤◌, ◌&&◌, Bool}
use Rattle.std.specs.List.{filter, range_with_len}
use Rattle.vc_plan.specs.Domains.{is_grain_with}
use Rattle.vc_plan.specs.Seen.{is_left}
use Rattle.vc_plan.specs.Restrictions.{left_with}
use Rattle.vc_check_gives.specs.Counting.{counted, remaining_of}
use Rattle.vc_check_gives.specs.Parts.{passes_by}
use Rattle.vc_check_gives.proofs.grains_left.left_with.Given as goal

abbrev pub invariant-loop-grain : goal.invariant-loop-grain
invariant-loop-grain g l =
    let test : ℕ → Bool
    = λ n. is_left l.plan (g.V.View.seen l.view) l.var n && is_grain_with l.plan l.var (passes_by l.test) n in
    (counted l.remaining (filter test (range_with_len l.grain (l.count - l.grain)))
    ≡ remaining_of (left_with l.plan (g.V.View.seen l.view) l.var (passes_by l.test)))
    × (l.grain ≤ l.count)

abbrev pub decreases-loop-grain : goal.decreases-loop-grain
decreases-loop-grain g l = l.count - l.grain
