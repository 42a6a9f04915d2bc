-- The one at hand is put, and those after it are to come.
use Rattle.std.proofs.Common.{◌+◌, ◌++◌, arith}
use Rattle.vc_base.proofs.RangeLaws.{walk_on}
use Rattle.vc_app_family.specs.Families.{restriction, restrictions_by}
use Rattle.vc_app_family.proofs.writing.put_restrictions_by.Goals as goal

pub loop-value-preserved : goal.loop-value-preserved
loop-value-preserved c = (
  walk_on (restriction c.args.family c.args.characteristic)
      c.loop-value.value c.value_count-count.result c.loop-value.out c.put_restriction.new.out
      (c.args.out.now ++ restrictions_by c.args.family c.args.characteristic)
      c.loop-value-test.true c.in_ok-put_restriction.ensures c.loop-value.invariant.0,
  omega (arith, c.loop-value-test.true),
)
