-- The sources of the first variable wait, if they differ.
use Rattle.std.proofs.Common.{◌∙◌}
use Rattle.vc_net_going.proofs.ChangeLaws.{among_rest}
use Rattle.vc_net_going.proofs.asking.wake_among.Goals as goal

pub loop-rest-preserved : goal.loop-rest-preserved
loop-rest-preserved c =
    among_rest c.args.old.now c.args.new.now c.loop-rest.rest.now 0 c.loop-rest.agenda c.wake_if_changed.new.agenda
    c.in-len1-up.len_at_least c.wake_if_changed.ensures
    ∙ c.loop-rest.invariant
