-- The first of those to come that is violated is the first of all.
use Rattle.std.proofs.Common.{◌≡◌, drop}
use Rattle.std.specs.List.{find}
use Rattle.vc_plan.specs.Readings.{full_reading}
use Rattle.vc_plan.specs.Showing.{is_violated}
use Rattle.vc_show.proofs.hiding.first_violated.Given as goal

abbrev pub invariant-loop-guard : goal.invariant-loop-guard
invariant-loop-guard g l =
    let seen = g.R.View.seen l.reading in
    let reading = full_reading l.plan seen (g.R.Reading.holdings l.reading) in
    find (is_violated l.plan seen reading) (drop l.guard-index l.plan.guards)
    ≡ find (is_violated l.plan seen reading) l.plan.guards
