-- What is put so far, with the characteristics to come, is all of it.
use Rattle.std.proofs.Common.{◌≡◌, ◌++◌, drop}
use Rattle.std.specs.List.{flat_map}
use Rattle.vc_plan.specs.Readings.{full_reading}
use Rattle.vc_show_rows.specs.Rows.{class_of, named_of, row_if, rows_of}
use Rattle.vc_show_rows.proofs.rows.rows_of.Given as goal

abbrev pub invariant-loop-characteristic : goal.invariant-loop-characteristic
invariant-loop-characteristic g l =
    let seen = g.R.View.seen l.reading in
    let reading = full_reading l.plan seen (g.R.Reading.holdings l.reading) in
    l.out ++ flat_map (λ c. row_if l.plan seen reading (named_of l.plan l.slot c))
    (drop l.characteristic-index (class_of l.plan l.slot))
    ≡ rows_of l.plan seen reading l.slot
