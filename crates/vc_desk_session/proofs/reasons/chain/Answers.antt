-- The chain explains the atom.
use Rattle.std.proofs.Common.{refl, subst}
use Rattle.vc_plan_users.specs.Choosing.{users_of}
use Rattle.vc_net_chains.specs.Explaining.{IsWhy}
use Rattle.vc_desk_session.specs.Reasons.{told}
use Rattle.vc_desk_session.proofs.reasons.chain.Goals as goal

pub returns-in-Ok-Some : goal.returns-in-Ok-Some
returns-in-Ok-Some c =
    told c.in-Ok-Some.steps
    (subst (IsWhy c.args.plan.now (users_of c.args.session.now.users) c.args.atom) c.in-Ok-Some.field-0-is
    c.in-Ok-Some.ensures) refl
