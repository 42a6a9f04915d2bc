-- What is put so far, with the grains to come, is all of it.
use Rattle.std.proofs.Common.{◌≡◌, ◌-◌, ◌≤◌, ◌++◌}
use Rattle.std.specs.List.{flat_map, range_with_len}
use Rattle.vc_plan.specs.Readings.{full_reading}
use Rattle.vc_show_rows.specs.Rows.{shown_grain, shown_grains}
use Rattle.vc_show_rows.proofs.grains.shown_grains.Given as goal

abbrev pub invariant-loop-grain : goal.invariant-loop-grain
invariant-loop-grain g l =
    let seen = g.R.View.seen l.reading in
    let reading = full_reading l.plan seen (g.R.Reading.holdings l.reading) in
    (l.out ++ flat_map (shown_grain l.plan seen reading l.var) (range_with_len l.grain (l.count - l.grain))
    ≡ shown_grains l.plan seen reading l.var) × (l.grain ≤ l.count)

abbrev pub decreases-loop-grain : goal.decreases-loop-grain
decreases-loop-grain g l = l.count - l.grain
