-- The clash of the broken stage's net explains the break.
use Rattle.std.proofs.Common.{◌≡◌, subst, sym}
use Rattle.std.specs.Prelude.{IfOk}
use Rattle.vc_net.specs.Nets.{outcome_by}
use Rattle.vc_net_chains.specs.Explaining.{IsClash}
use Rattle.vc_plan_users.specs.Choosing.{users_of}
use Rattle.vc_session.specs.Sessions.{IsSessionOf, Opened}
use Rattle.vc_session.specs.Explained.{blamed_by, broken_net, clash_by}
use Rattle.vc_session.specs.Sessions.{outcome_of}
use Rattle.vc_session.proofs.ExplainLaws.{clash_is_told, if_ok_told, outcome_named, short_broken}
use Rattle.vc_session.proofs.session.Session.clash.Goals as goal

pub clash-requires : goal.clash-requires
clash-requires c =
    let plan = c.args.plan.now in
    let s : Opened =
    record { users = c.self.inside.users; stages = c.self.inside.stages; marked = c.self.inside.marked } in
    let of : IsSessionOf plan s = subst (IsSessionOf plan) (sym c.self.view_is) c.requires.of in
    short_broken plan (users_of s.users) s.stages c.requires.valid of.stages of.evaluated

pub returns-clause-explains : goal.returns-clause-explains
returns-clause-explains c =
    let plan = c.args.plan.now in
    let s : Opened =
    record { users = c.self.inside.users; stages = c.self.inside.stages; marked = c.self.inside.marked } in
    let of : IsSessionOf plan s = subst (IsSessionOf plan) (sym c.self.view_is) c.requires.of in
    subst (λ (session : Opened). IfOk c.clash.result (λ clash. IsClash plan (users_of session.users) clash))
    c.self.view_is
    (if_ok_told c.clash.result (clash_by (broken_net s.stages)) (IsClash plan (users_of s.users)) c.clash.ensures
    (clash_is_told plan (users_of s.users) s.stages c.requires.valid of.stages of.evaluated))

pub returns-clause-blames : goal.returns-clause-blames
returns-clause-blames c =
    let s : Opened =
    record { users = c.self.inside.users; stages = c.self.inside.stages; marked = c.self.inside.marked } in
    subst (λ (session : Opened). IfOk c.clash.result (λ clash. outcome_by (blamed_by clash)
    ≡ outcome_of session.stages session.stages.broken)) c.self.view_is
    (if_ok_told c.clash.result (clash_by (broken_net s.stages))
    (λ clash. outcome_by (blamed_by clash) ≡ outcome_of s.stages s.stages.broken) c.clash.ensures
    (outcome_named s.stages))
