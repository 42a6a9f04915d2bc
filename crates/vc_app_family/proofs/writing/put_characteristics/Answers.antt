-- The one at hand is put, and those after it are to come.
use Rattle.std.proofs.Common.{◌+◌, ◌++◌, arith}
use Rattle.vc_base.proofs.RangeLaws.{walk_on}
use Rattle.vc_app_family.specs.Families.{all_characteristics, characteristic_lines}
use Rattle.vc_app_family.proofs.writing.put_characteristics.Goals as goal

pub loop-place-preserved : goal.loop-place-preserved
loop-place-preserved c = (
  walk_on (λ place. characteristic_lines c.args.values (place + 1))
      c.loop-place.place c.args.count c.loop-place.out c.put_characteristic.new.out
      (c.args.out.now ++ all_characteristics c.args.values c.args.count)
      c.loop-place-test.true c.in_ok-put_characteristic.ensures c.loop-place.invariant.0,
  omega (arith, c.loop-place-test.true),
)
