-- Each operation adds its row, where it is taken.
use Rattle.vc_plan.specs.Readings.{full_reading}
use Rattle.std.proofs.Common.{refl}
use Rattle.vc_bill.proofs.BillLemmas.{routing_begun, routing_next}
use Rattle.vc_bill.proofs.routing.operations.Goals as goal

pub loop-number-init : goal.loop-number-init
loop-number-init g c =
    let plan = c.args.plan.now in
    let seen = g.R.View.seen c.args.reading.now in
    routing_begun plan seen (full_reading plan seen (g.R.Reading.holdings c.args.reading.now)) c.new-out.result 0
    c.new-out.ensures refl

pub loop-number-preserved : goal.loop-number-preserved
loop-number-preserved g c =
    let plan = c.args.plan.now in
    let seen = g.R.View.seen c.args.reading.now in
    routing_next plan seen (full_reading plan seen (g.R.Reading.holdings c.args.reading.now)) c.loop-number.number
    c.loop-number.out
    c.put_operation.new.out c.as_slice-operation-items.result.now c.operation-item.result
    c.as_slice-operation-items.ensures
    c.loop-number-test.true c.operation-item.is c.in_ok-put_operation.ensures c.loop-number.invariant
