-- Whether one of those to come demands a value that lacks is whether one of all does.
use Rattle.std.proofs.Common.{◌≡◌, drop}
use Rattle.std.specs.List.{list_any}
use Rattle.vc_plan.specs.Readings.{full_reading}
use Rattle.vc_show.specs.Asking.{lacks_demanded}
use Rattle.vc_show.proofs.asking.some_demand_lacks.Given as goal

abbrev pub invariant-loop-requirement : goal.invariant-loop-requirement
invariant-loop-requirement g l =
    let seen = g.R.View.seen l.reading in
    let reading = full_reading l.plan seen (g.R.Reading.holdings l.reading) in
    list_any (lacks_demanded l.plan seen reading) (drop l.requirement-index l.plan.requirements)
    ≡ list_any (lacks_demanded l.plan seen reading) l.plan.requirements
