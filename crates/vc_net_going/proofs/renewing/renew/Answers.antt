-- What is kept of the log is accepted with the new sources, and whoever may have more to say waits.
use Rattle.std.proofs.Common.{length}
use Rattle.vc_net_going.specs.Renewing.{changed_sources}
use Rattle.vc_net_going.proofs.ChangeLaws.{changes_of_all}
use Rattle.vc_net_going.proofs.KeepingLaws.{goes_on_with, stays_behind}
use Rattle.vc_net_going.proofs.renewing.renew.Goals as goal

pub returns-clause-going : goal.returns-clause-going
returns-clause-going c =
    let plan = c.args.plan.now in
    let old = c.args.old.now in
    let new = c.args.new.now in
    goes_on_with plan old new c.args.work.now c.keep.new.work c.requires.going c.keep.ensures
    (changed_sources old new (length plan.vars)) (changes_of_all plan old new) c.wake_changed.new.agenda
    c.wake_changed.ensures

pub returns-clause-behind : goal.returns-clause-behind
returns-clause-behind c =
    let plan = c.args.plan.now in
    let old = c.args.old.now in
    let new = c.args.new.now in
    stays_behind plan old new c.args.work.now c.keep.new.work c.requires.going c.keep.ensures
    (changed_sources old new (length plan.vars)) (changes_of_all plan old new) c.wake_changed.new.agenda
    c.wake_changed.ensures c.requires.valid

pub returns-clause-kept : goal.returns-clause-kept
returns-clause-kept c = c.keep.ensures.kept

pub returns-clause-calm : goal.returns-clause-calm
returns-clause-calm c = c.keep.ensures.calm
