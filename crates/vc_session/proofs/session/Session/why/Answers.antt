-- The chain of the last stage's net explains the atom.
use Rattle.std.proofs.Common.{subst, sym}
use Rattle.std.specs.Prelude.{IfOk}
use Rattle.vc_net_chains.specs.Explaining.{IsWhy}
use Rattle.vc_plan_users.specs.Choosing.{users_of}
use Rattle.vc_session.specs.Sessions.{IsSessionOf, Opened}
use Rattle.vc_session.specs.Explained.{chain_by, settled_net}
use Rattle.vc_session.proofs.ExplainLaws.{chain_is_why, if_ok_told, short_settled}
use Rattle.vc_session.proofs.session.Session.why.Goals as goal

pub chain-requires : goal.chain-requires
chain-requires c =
    let plan = c.args.plan.now in
    let s : Opened =
    record { users = c.self.inside.users; stages = c.self.inside.stages; marked = c.self.inside.marked } in
    let of : IsSessionOf plan s = subst (IsSessionOf plan) (sym c.self.view_is) c.requires.of in
    short_settled plan (users_of s.users) s.stages c.requires.valid of.stages of.evaluated

pub returns : goal.returns
returns c =
    let plan = c.args.plan.now in
    let s : Opened =
    record { users = c.self.inside.users; stages = c.self.inside.stages; marked = c.self.inside.marked } in
    let of : IsSessionOf plan s = subst (IsSessionOf plan) (sym c.self.view_is) c.requires.of in
    subst (λ (session : Opened). IfOk c.chain.result (λ chain. IsWhy plan (users_of session.users) c.args.atom chain))
    c.self.view_is
    (if_ok_told c.chain.result (chain_by (settled_net s.stages) c.args.atom) (IsWhy plan (users_of s.users) c.args.atom)
    c.chain.ensures (chain_is_why plan (users_of s.users) s.stages c.requires.valid of.stages of.evaluated c.args.atom))
