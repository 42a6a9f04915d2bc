-- The sum is that over the slots from here on.
use Rattle.std.proofs.Common.{◌≡◌, ◌-◌, ◌≤◌, length, map}
use Rattle.std.specs.List.{filter, range_with_len}
use Rattle.vc_plan.specs.Parts.{total}
use Rattle.vc_plan.specs.Readings.{full_reading}
use Rattle.vc_plan_values.specs.Values.{count_if}
use Rattle.vc_rule_readings.specs.Summing.{addend, adds}
use Rattle.vc_rule_readings.proofs.parts.part_total.Given as goal

abbrev pub invariant-loop-part : goal.invariant-loop-part
invariant-loop-part g l =
    let seen = g.R.View.seen l.reading in
    let reading = full_reading l.plan seen (g.R.Reading.holdings l.reading) in
    let n = length l.plan.slots in
    (l.part ≤ n)
    × (count_if l.sum ≡ total
    (map (addend l.plan reading l.named)
    (filter (adds l.plan seen l.slot l.named) (range_with_len l.part (n - l.part)))))

abbrev pub decreases-loop-part : goal.decreases-loop-part
decreases-loop-part g l = l.part
