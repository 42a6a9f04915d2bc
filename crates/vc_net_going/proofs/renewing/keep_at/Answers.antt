-- What is kept of the log stays, and whom what is dropped wakes waits; sources give values alone.
use Rattle.vc_net_log.proofs.SourceLaws.{accepted_are_givable}
use Rattle.vc_net_going.proofs.KeepingLaws.{has_kept}
use Rattle.vc_net_going.proofs.RenewLaws.{earlier_cited, few_steps}
use Rattle.vc_net_going.proofs.renewing.keep_at.Goals as goal

pub keep_at-requires-clause-room : goal.keep_at-requires-clause-room
keep_at-requires-clause-room c =
    few_steps c.args.plan.now c.args.old.now c.args.new.now c.args.work.now c.requires.going

pub keep_at-requires-clause-earlier : goal.keep_at-requires-clause-earlier
keep_at-requires-clause-earlier c =
    earlier_cited c.args.plan.now c.args.old.now c.args.new.now c.args.work.now c.requires.going

pub keep_at-requires-clause-givable : goal.keep_at-requires-clause-givable
keep_at-requires-clause-givable c =
    accepted_are_givable c.args.plan.now c.args.old.now c.args.work.now.log.steps c.requires.going.accepted

pub returns : goal.returns
returns c =
    has_kept c.args.plan.now c.args.old.now c.args.new.now c.args.work.now c.requires.going
    c.keep_at.new.self c.keep_at.new.taken
    c.keep_at.ensures.kept c.keep_at.ensures.taken c.keep_at.ensures.room
    c.wake_dropped.new.agenda c.as_slice.result.now
    c.as_slice.ensures c.wake_dropped.ensures c.clear.new.self c.clear.ensures
