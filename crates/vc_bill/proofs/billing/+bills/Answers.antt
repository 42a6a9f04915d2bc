-- The lines of a slot are walked from where they begin to where they end.
use Rattle.std.proofs.Common.{arith, ◌-◌, ◌++◌}
use Rattle.vc_plan.specs.Bills.{bill_from}
use Rattle.vc_plan.specs.Readings.{full_reading}
use Rattle.vc_bill.proofs.BillLemmas.{bill_begun, bill_next}
use Rattle.vc_bill.proofs.billing.+bills.Goals as goal

pub put_bill-loop-line-init : goal.put_bill-loop-line-init
put_bill-loop-line-init g t c =
    let plan = c.args.source.now.plan.now in
    let seen = g.R.View.seen c.args.source.now.reading.now in
    let reading = full_reading plan seen (g.R.Reading.holdings c.args.source.now.reading.now) in
    bill_begun plan seen reading c.as_slice-lines.result.now c.as_slice-lines.ensures c.args.slot c.first_of-line.result
    c.end_of-end.result
    c.args.levels c.args.level c.args.out.now c.end_of-end.ensures.bound c.first_of-line.ensures.bound
    c.first_of-line.ensures.before
    c.end_of-end.ensures.after (omega (arith, c.if-levels-eq0.false))

pub put_bill-loop-line-preserved : goal.put_bill-loop-line-preserved
put_bill-loop-line-preserved g t c =
    let plan = c.args.source.now.plan.now in
    let seen = g.R.View.seen c.args.source.now.reading.now in
    let reading = full_reading plan seen (g.R.Reading.holdings c.args.source.now.reading.now) in
    bill_next plan seen reading (c.args.levels - 1) c.args.level c.args.slot c.loop-line.line c.end_of-end.result
    c.loop-line.out
    c.put_line.new.out (c.args.out.now ++ bill_from plan seen reading c.args.levels c.args.level c.args.slot)
    c.loop-line-test.true
    c.in_ok-put_line.ensures c.loop-line.invariant
