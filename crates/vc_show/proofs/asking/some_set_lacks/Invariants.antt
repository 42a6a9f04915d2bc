-- Whether one of the sets to come lacks is whether one of all does.
use Rattle.std.proofs.Common.{◌≡◌, ◌-◌, ◌≤◌, length}
use Rattle.std.specs.List.{list_any, range_with_len}
use Rattle.vc_plan.specs.declared.plans.Named.TheVariants.{Set}
use Rattle.vc_plan.specs.Domains.{numbers_below}
use Rattle.vc_plan.specs.Readings.{full_reading}
use Rattle.vc_show.specs.Asking.{lacks_marked}
use Rattle.vc_show.proofs.asking.some_set_lacks.Given as goal

abbrev pub invariant-loop-set : goal.invariant-loop-set
invariant-loop-set g l =
    let seen = g.R.View.seen l.reading in
    let reading = full_reading l.plan seen (g.R.Reading.holdings l.reading) in
    (list_any (λ n. lacks_marked l.plan seen reading (Set n)) (range_with_len l.set (l.count - l.set))
    ≡ list_any (λ n. lacks_marked l.plan seen reading (Set n)) (numbers_below (length l.plan.sets)))
    × (l.set ≤ l.count)

abbrev pub decreases-loop-set : goal.decreases-loop-set
decreases-loop-set g l = l.count - l.set
