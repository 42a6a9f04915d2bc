-- What is kept of the log stays, and whom what is dropped wakes waits.
use Rattle.vc_net_going.proofs.KeepingLaws.{has_kept}
use Rattle.vc_net_going.proofs.RenewLaws.{earlier_cited, few_steps}
use Rattle.vc_net_going.proofs.renewing.keep.Goals as goal

pub keep-requires-clause-room : goal.keep-requires-clause-room
keep-requires-clause-room c =
    few_steps c.args.plan.now c.args.old.now c.args.new.now c.args.work.now c.requires.going

pub keep-requires-clause-earlier : goal.keep-requires-clause-earlier
keep-requires-clause-earlier c =
    earlier_cited c.args.plan.now c.args.old.now c.args.new.now c.args.work.now c.requires.going

pub returns : goal.returns
returns c =
    has_kept c.args.plan.now c.args.old.now c.args.new.now c.args.work.now c.requires.going
    c.keep.new.self c.keep.new.taken
    c.keep.ensures.kept c.keep.ensures.taken c.keep.ensures.room c.wake_dropped.new.agenda c.as_slice.result.now
    c.as_slice.ensures c.wake_dropped.ensures c.clear.new.self c.clear.ensures
