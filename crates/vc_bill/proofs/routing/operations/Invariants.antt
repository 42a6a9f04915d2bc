-- What is put so far, with the operations to come, is all of it.
use Rattle.std.proofs.Common.{◌≡◌, ◌-◌, ◌++◌, length}
use Rattle.std.specs.List.{flat_map, range_with_len}
use Rattle.vc_plan.specs.Bills.{routing_of}
use Rattle.vc_plan.specs.Readings.{full_reading}
use Rattle.vc_bill.proofs.BillLemmas.{operation_rows}
use Rattle.vc_bill.proofs.routing.operations.Given as goal

abbrev pub invariant-loop-number : goal.invariant-loop-number
invariant-loop-number g l =
    let seen = g.R.View.seen l.reading in
    let reading = full_reading l.plan seen (g.R.Reading.holdings l.reading) in
    l.out ++ flat_map (operation_rows l.plan seen reading)
    (range_with_len l.number (length l.plan.operations - l.number))
    ≡ routing_of l.plan seen reading
