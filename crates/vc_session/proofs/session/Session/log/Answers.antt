-- The steps of the last stage's net are all that follows.
use Rattle.std.proofs.Common.{subst, sym}
use Rattle.std.specs.Prelude.{IfOk}
use Rattle.vc_net_chains.specs.Explaining.{IsLog}
use Rattle.vc_plan_users.specs.Choosing.{users_of}
use Rattle.vc_session.specs.Sessions.{IsSessionOf, Opened}
use Rattle.vc_session.specs.Explained.{log_by, settled_net}
use Rattle.vc_session.proofs.ExplainLaws.{if_ok_told, log_is_told}
use Rattle.vc_session.proofs.session.Session.log.Goals as goal

pub returns : goal.returns
returns c =
    let plan = c.args.plan.now in
    let s : Opened =
    record { users = c.self.inside.users; stages = c.self.inside.stages; marked = c.self.inside.marked } in
    let of : IsSessionOf plan s = subst (IsSessionOf plan) (sym c.self.view_is) c.requires.of in
    subst (λ (session : Opened). IfOk c.log.result (λ log. IsLog plan (users_of session.users) log)) c.self.view_is
    (if_ok_told c.log.result (log_by (settled_net s.stages)) (IsLog plan (users_of s.users)) c.log.ensures
    (log_is_told plan (users_of s.users) s.stages c.requires.valid of.stages of.evaluated))
