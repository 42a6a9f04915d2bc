-- The grain at hand is put, if it is shown, and those after it are to come.
use Rattle.std.proofs.Common.{arith}
use Rattle.vc_base.proofs.RangeLaws.{walk_on}
use Rattle.vc_plan.specs.Readings.{full_reading}
use Rattle.vc_show_rows.specs.Rows.{shown_grain, shown_grains}
use Rattle.vc_show_rows.proofs.grains.shown_grains.Goals as goal

pub loop-grain-preserved : goal.loop-grain-preserved
loop-grain-preserved g c =
    let plan = c.args.plan.now in
    let seen = g.R.View.seen c.args.reading.now in
    let reading = full_reading plan seen (g.R.Reading.holdings c.args.reading.now) in (
      walk_on (shown_grain plan seen reading c.args.var) c.loop-grain.grain c.grain_count-count.result c.loop-grain.out
          c.put_grain.new.out
          (shown_grains plan seen reading c.args.var) c.loop-grain-test.true c.in_ok-put_grain.ensures
          c.loop-grain.invariant.0,
      omega (arith, c.loop-grain-test.true),
    )
