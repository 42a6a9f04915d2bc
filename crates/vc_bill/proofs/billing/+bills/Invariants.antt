-- What is put so far, with the lines to come and their components' bills, is all of it.
use Rattle.std.proofs.Common.{◌≡◌, ◌+◌, ◌-◌, ◌*◌, ◌++◌}
use Rattle.std.specs.List.{flat_map, range_with_len}
use Rattle.vc_plan.specs.Bills.{bill_from}
use Rattle.vc_plan.specs.Readings.{full_reading}
use Rattle.vc_bill.specs.Walking.{line_bill}
use Rattle.vc_bill.proofs.billing.+bills.Given as goal

abbrev pub decreases-put_bill : goal.decreases-put_bill
decreases-put_bill g l = 2 * l.levels

abbrev pub decreases-put_line : goal.decreases-put_line
decreases-put_line g l = 2 * l.levels + 1

abbrev pub invariant-put_bill-loop-line : goal.invariant-put_bill-loop-line
invariant-put_bill-loop-line g l =
    let plan = l.source.plan.now in
    let seen = g.R.View.seen l.source.reading.now in
    let reading = full_reading plan seen (g.R.Reading.holdings l.source.reading.now) in
    l.out ++ flat_map (line_bill plan seen reading (l.levels - 1) l.level l.slot)
    (range_with_len l.line (l.end - l.line))
    ≡ l.fn.out ++ bill_from plan seen reading l.levels l.level l.slot

abbrev pub decreases-put_bill-loop-line : goal.decreases-put_bill-loop-line
decreases-put_bill-loop-line g l = l.end - l.line
