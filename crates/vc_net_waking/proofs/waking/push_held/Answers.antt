-- Those that wait ascend, and those of them that touch the variable are those of its readers that are among them.
use Rattle.std.proofs.Common.{ap, subst, sym}
use Rattle.vc_net_readers.specs.Filing.{list_at}
use Rattle.vc_net_readers.specs.Laws.{waiting_on}
use Rattle.vc_net_readers.specs.Rising.{IsRising}
use Rattle.vc_net_readers.proofs.AskedLaws.{waiting_rises}
use Rattle.vc_net_waking.proofs.GiverLaws.{come_with, common_at, waiting_with}
use Rattle.vc_net_waking.proofs.waking.push_held.Goals as goal

pub push_common-requires-clause-rising : goal.push_common-requires-clause-rising
push_common-requires-clause-rising g c =
    let plan = c.args.plan.now in
    let seen = g.V.View.seen c.args.view.now in
    subst IsRising
    (sym (waiting_with plan seen c.args.held.var c.args.held.value c.waiting-rules.result.now (sym c.requires.held)
    c.waiting-rules.ensures))
    (waiting_rises plan seen c.args.held.var)

pub push_common-requires-clause-common : goal.push_common-requires-clause-common
push_common-requires-clause-common g c =
    let plan = c.args.plan.now in
    let seen = g.V.View.seen c.args.view.now in
    common_at plan seen c.args.var c.args.held.var c.waiting-rules.result.now
    (list_at c.args.readers.now.by_var c.args.var) c.requires.there
    (waiting_with plan seen c.args.held.var c.args.held.value c.waiting-rules.result.now (sym c.requires.held)
    c.waiting-rules.ensures)
    (ap (λ r. list_at r.by_var c.args.var) c.requires.readers)

pub returns : goal.returns
returns g c =
    let plan = c.args.plan.now in
    let seen = g.V.View.seen c.args.view.now in
    come_with plan seen c.args.var c.waiting-rules.result.now (waiting_on plan seen c.args.held.var) c.args.agenda.now
    c.push_common.new.agenda
    (waiting_with plan seen c.args.held.var c.args.held.value c.waiting-rules.result.now (sym c.requires.held)
    c.waiting-rules.ensures)
    c.push_common.ensures
