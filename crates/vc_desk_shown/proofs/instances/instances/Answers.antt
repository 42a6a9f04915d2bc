-- The slot at hand is put, and those after it are to come.
use Rattle.std.proofs.Common.{arith, length, ◌<◌}
use Rattle.vc_base.proofs.RangeLaws.{walk_on}
use Rattle.vc_plan_users.specs.Choosing.{users_of}
use Rattle.vc_session.specs.Sessions.{last_seen}
use Rattle.vc_desk_shown.specs.Shown.{instance_if_here, instances_text}
use Rattle.vc_desk_shown.proofs.instances.instances.Goals as goal

pub loop-slot-preserved : goal.loop-slot-preserved
loop-slot-preserved c =
    let plan = c.args.plan.now in
    let stages = c.args.session.now.stages in
    let users = users_of c.args.session.now.users in
    let seen = last_seen stages in
    let low : c.loop-slot.slot < length plan.slots
    = omega (arith, c.loop-slot-test.true, c.len-slot-end.ensures, c.requires.slots) in (
      walk_on (instance_if_here plan users seen stages.overlay stages.late) c.loop-slot.slot (length plan.slots)
          c.loop-slot.out
          c.put_if_here.new.out (instances_text plan users seen stages.overlay stages.late) low
          c.in_ok-put_if_here.ensures c.loop-slot.invariant.0,
      omega (arith, low),
    )
