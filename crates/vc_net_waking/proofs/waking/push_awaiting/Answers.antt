-- Those that wait for a value of the first variable come first.
use Rattle.std.proofs.Common.{◌∙◌}
use Rattle.vc_net_waking.proofs.GiverLaws.{awaiting_rest}
use Rattle.vc_net_waking.proofs.waking.push_awaiting.Goals as goal

pub loop-rest-preserved : goal.loop-rest-preserved
loop-rest-preserved g c =
    awaiting_rest c.args.plan.now (g.V.View.seen c.args.view.now) c.args.var c.loop-rest.rest.now 0
    c.loop-rest.agenda c.push_waiting.new.agenda c.in-len1-up.len_at_least c.push_waiting.ensures
    ∙ c.loop-rest.invariant
