-- Whether one of those to come hides it is whether one of all does.
use Rattle.std.proofs.Common.{◌≡◌, ◌&&◌, drop}
use Rattle.std.specs.Prelude.{is_none}
use Rattle.std.specs.List.{list_any}
use Rattle.vc_plan.specs.Readings.{full_reading}
use Rattle.vc_plan.specs.Showing.{is_forbidden, same_named}
use Rattle.vc_show.proofs.hiding.some_hides.Given as goal

abbrev pub invariant-loop-guard : goal.invariant-loop-guard
invariant-loop-guard g l =
    let reading = full_reading l.plan (g.R.View.seen l.reading) (g.R.Reading.holdings l.reading) in
    list_any (λ guard. same_named guard.at l.named && is_none guard.value && is_forbidden l.plan reading guard)
    (drop l.guard-index l.guards)
    ≡ list_any (λ guard. same_named guard.at l.named && is_none guard.value && is_forbidden l.plan reading guard)
    l.guards
