-- The text at the place is changed; the others stay.
use Rattle.std.proofs.Common.{arith, false}
use Rattle.vc_plan_users.specs.Choosing.{let_go}
use Rattle.vc_plan_users.proofs.MarkLemmas.{change_step}
use Rattle.vc_plan_users.proofs.users.let_go_all.Goals as goal

pub loop-place-preserved : goal.loop-place-preserved
loop-place-preserved c =
    change_step (let_go) c.args.listed.now c.loop-place.listed c.as_slice.result.now c.set.new.self
    (record { text = 0; held = false }) c.let_go.result c.loop-place.place
    (omega (arith, c.loop-place-test.true, c.len-place-end.ensures))
    c.loop-place.invariant.0 c.loop-place.invariant.1 c.as_slice.ensures c.let_go.ensures c.set.ensures
