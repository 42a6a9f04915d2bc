-- A clash contradicts, and blames whom the session does; or the status says what does.
use Rattle.std.proofs.Common.{ap, ◌∙◌, refl, subst, sym}
use Rattle.vc_plan_users.specs.Choosing.{users_of}
use Rattle.vc_net.specs.Nets.{outcome_by}
use Rattle.vc_net_chains.specs.Explaining.{IsClash}
use Rattle.vc_session.specs.Explained.{blamed_by}
use Rattle.vc_desk_session.specs.Reasons.{clashes, settled}
use Rattle.vc_desk_session.proofs.reasons.conflict.Goals as goal

pub returns-in-Ok-Some : goal.returns-in-Ok-Some
returns-in-Ok-Some c =
    clashes c.in-Ok-Some.clash
    (subst (IsClash c.args.plan.now (users_of c.args.session.now.users)) c.in-Ok-Some.field-0-is
    c.in-Ok-Some.ensures.explains)
    (sym c.in-Ok-Some.ensures.blames ∙ ap (λ clash. outcome_by (blamed_by clash)) c.in-Ok-Some.field-0-is) refl

pub returns-in-Ok-None : goal.returns-in-Ok-None
returns-in-Ok-None c =
    settled c.status.result
    (subst (IsClash c.args.plan.now (users_of c.args.session.now.users)) c.in-Ok-None.field-0-is
    c.in-Ok-None.ensures.explains) c.status.ensures c.no_clash.ensures
