-- The one at hand is put, and those after it are to come.
use Rattle.std.proofs.Common.{◌+◌, ◌-◌, ◌++◌, arith}
use Rattle.vc_base.proofs.RangeLaws.{walk_on}
use Rattle.vc_app_family.specs.Families.{restrictions, restrictions_by}
use Rattle.vc_app_family.proofs.writing.put_restrictions.Goals as goal

pub loop-place-preserved : goal.loop-place-preserved
loop-place-preserved c = (
  walk_on (λ place. restrictions_by c.args.family (place + 1))
      c.loop-place.place (c.characteristic_count-count.result - 1) c.loop-place.out c.put_restrictions_by.new.out
      (c.args.out.now ++ restrictions c.args.family)
      c.loop-place-test.true c.in_ok-put_restrictions_by.ensures c.loop-place.invariant.0,
  omega (arith, c.loop-place-test.true),
)
