-- Whether one of those to come is true is whether one of all is.
use Rattle.std.proofs.Common.{◌≡◌, drop}
use Rattle.std.specs.List.{list_any}
use Rattle.vc_plan.specs.Kleene.{is_true}
use Rattle.vc_plan.specs.Readings.{full_reading}
use Rattle.vc_plan.specs.Truth.{truth_at}
use Rattle.vc_bill.proofs.selecting.some_holds.Given as goal

abbrev pub invariant-loop-selection : goal.invariant-loop-selection
invariant-loop-selection g l =
    let reading = full_reading l.plan (g.R.View.seen l.reading) (g.R.Reading.holdings l.reading) in
    list_any (λ s. is_true (truth_at l.plan reading s.condition)) (drop l.selection-index l.selections)
    ≡ list_any (λ s. is_true (truth_at l.plan reading s.condition)) l.selections
