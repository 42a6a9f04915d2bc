-- Whether one of those to come demands it is whether one of all does.
use Rattle.std.proofs.Common.{◌≡◌, ◌&&◌, drop}
use Rattle.std.specs.List.{list_any}
use Rattle.vc_plan.specs.Kleene.{is_true}
use Rattle.vc_plan.specs.Readings.{full_reading}
use Rattle.vc_plan.specs.Showing.{same_named}
use Rattle.vc_plan.specs.Truth.{truth_at}
use Rattle.vc_show.proofs.asking.is_demanded.Given as goal

abbrev pub invariant-loop-requirement : goal.invariant-loop-requirement
invariant-loop-requirement g l =
    let reading = full_reading l.plan (g.R.View.seen l.reading) (g.R.Reading.holdings l.reading) in
    list_any (λ r. same_named r.at l.named && is_true (truth_at l.plan reading r.selection.condition))
    (drop l.requirement-index l.plan.requirements)
    ≡ list_any (λ r. same_named r.at l.named && is_true (truth_at l.plan reading r.selection.condition))
    l.plan.requirements
