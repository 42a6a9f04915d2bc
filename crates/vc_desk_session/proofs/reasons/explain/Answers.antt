-- Of an atom a chain is told.
use Rattle.std.proofs.Common.{subst, sym}
use Rattle.vc_plan_users.specs.Choosing.{users_of}
use Rattle.vc_desk_session.specs.Reasons.{Explains}
use Rattle.vc_desk_session.proofs.reasons.explain.Goals as goal

pub returns-in-Ok : goal.returns-in-Ok
returns-in-Ok c =
    subst (λ asked. Explains c.args.plan.now (users_of c.args.session.now.users) asked c.chain.result) (sym c.in-Ok.is)
    c.chain.ensures
