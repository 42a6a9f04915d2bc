-- The one at hand is put, and those after it are to come.
use Rattle.std.proofs.Common.{◌+◌, ◌++◌, arith}
use Rattle.vc_base.proofs.RangeLaws.{walk_on}
use Rattle.vc_app_family.specs.Families.{value_line, value_lines}
use Rattle.vc_app_family.proofs.writing.put_values.Goals as goal

pub loop-value-preserved : goal.loop-value-preserved
loop-value-preserved c = (
  walk_on value_line c.loop-value.value c.args.count c.loop-value.out c.put_numbered.new.out
      (c.args.out.now ++ value_lines c.args.count)
      c.loop-value-test.true c.in_ok-put_numbered.ensures c.loop-value.invariant.0,
  omega (arith, c.loop-value-test.true),
)
