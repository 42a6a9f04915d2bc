-- Where no stage is broken the status is read off what the evaluation reaches.
use Rattle.std.proofs.Common.{◌∙◌, sym}
use Rattle.vc_show.proofs.FittingLaws.{valid_plans_show}
use Rattle.vc_desk_shown.proofs.ShownLaws.{calm, reads, settled_sessions_reach}
use Rattle.vc_desk_shown.proofs.statuses.status.Goals as goal

pub status_of-requires-clause-fit : goal.status_of-requires-clause-fit
status_of-requires-clause-fit c = valid_plans_show c.args.plan.now c.requires.valid

pub status_of-requires-clause-values : goal.status_of-requires-clause-values
status_of-requires-clause-values c =
    (settled_sessions_reach c.args.plan.now c.args.session.now c.requires.valid c.requires.of
    (calm c.args.plan.now c.args.session.now c.requires.of (sym c.outcome.ensures ∙ c.in-Settled.is))).lies

pub returns-in-Settled : goal.returns-in-Settled
returns-in-Settled c =
    reads c.args.plan.now c.args.session.now c.requires.of c.requires.valid c.status_of.result
    (calm c.args.plan.now c.args.session.now c.requires.of (sym c.outcome.ensures ∙ c.in-Settled.is))
    c.status_of.ensures
