-- The slot at hand is put, and those after it are to come.
use Rattle.std.proofs.Common.{arith, length, ◌<◌}
use Rattle.vc_base.proofs.RangeLaws.{walk_on}
use Rattle.vc_plan_users.specs.Choosing.{users_of}
use Rattle.vc_desk_shown.specs.Shown.{chosen_at, chosen_text}
use Rattle.vc_desk_shown.proofs.chosen.chosen.Goals as goal

pub loop-slot-preserved : goal.loop-slot-preserved
loop-slot-preserved c =
    let plan = c.args.plan.now in
    let users = users_of c.args.users.now in
    let low : c.loop-slot.slot < length plan.slots
    = omega (arith, c.loop-slot-test.true, c.len-slot-end.ensures, c.requires.slots) in (
      walk_on (chosen_at plan users) c.loop-slot.slot (length plan.slots) c.loop-slot.out c.put_chosen_at.new.out
          (chosen_text plan users) low
          c.in_ok-put_chosen_at.ensures c.loop-slot.invariant.0,
      omega (arith, low),
    )
