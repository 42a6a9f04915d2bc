-- Where no stage is broken the rows are those of what the evaluation reaches.
use Rattle.std.proofs.Common.{◌∙◌, sym}
use Rattle.vc_plan_users.specs.Choosing.{users_of}
use Rattle.vc_session.specs.Sessions.{last_seen}
use Rattle.vc_show.proofs.FittingLaws.{valid_plans_show}
use Rattle.vc_show_rows.proofs.FittingLaws.{valid_plans_have_rows}
use Rattle.vc_desk_shown.specs.Shown.{instances_text, shown}
use Rattle.vc_desk_shown.proofs.ShownLaws.{if_ok_same, settled_sessions_reach, shows_instances}
use Rattle.vc_desk_shown.proofs.showing.rows.Goals as goal

pub chosen-requires-clause-fit : goal.chosen-requires-clause-fit
chosen-requires-clause-fit c = valid_plans_show c.args.plan.now c.requires.valid

pub instances-requires-clause-fit : goal.instances-requires-clause-fit
instances-requires-clause-fit c = valid_plans_have_rows c.args.plan.now c.requires.valid

pub instances-requires-clause-lies : goal.instances-requires-clause-lies
instances-requires-clause-lies c =
    (settled_sessions_reach c.args.plan.now c.args.session.now c.requires.valid c.requires.of
    (sym c.broken.ensures ∙ c.in-None.is)).lies

pub returns-in-None : goal.returns-in-None
returns-in-None c =
    let plan = c.args.plan.now in
    let session = c.args.session.now in
    let users = users_of session.users in
    if_ok_same c.instances.result
    (instances_text plan users (last_seen session.stages) session.stages.overlay session.stages.late)
    (shown plan users)
    (shows_instances plan session c.requires.of c.requires.valid (sym c.broken.ensures ∙ c.in-None.is))
    c.instances.ensures
