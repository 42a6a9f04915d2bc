-- The one at hand is put, and those after it are to come.
use Rattle.std.proofs.Common.{◌+◌, ◌++◌, arith}
use Rattle.vc_base.proofs.RangeLaws.{walk_on}
use Rattle.vc_app_family.specs.Families.{member_line, members}
use Rattle.vc_app_family.proofs.writing.put_members.Goals as goal

pub loop-place-preserved : goal.loop-place-preserved
loop-place-preserved c = (
  walk_on (λ place. member_line (place + 1))
      c.loop-place.place c.args.count c.loop-place.out c.put_numbered.new.out
      (c.args.out.now ++ members c.args.count)
      c.loop-place-test.true c.in_ok-put_numbered.ensures c.loop-place.invariant.0,
  omega (arith, c.loop-place-test.true),
)
