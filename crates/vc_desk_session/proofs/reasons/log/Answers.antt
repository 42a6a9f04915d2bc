-- All steps, or the status alone.
use Rattle.std.proofs.Common.{ap, refl, subst}
use Rattle.vc_plan_users.specs.Choosing.{users_of}
use Rattle.vc_net_chains.specs.Explaining.{IsLog}
use Rattle.vc_wire_replies.specs.declared.reply.Reply.TheVariants.{Shown}
use Rattle.vc_desk_session.specs.Reasons.{broken, whole}
use Rattle.vc_desk_session.proofs.reasons.log.Goals as goal

pub returns-in-Ok-Some : goal.returns-in-Ok-Some
returns-in-Ok-Some c =
    whole c.in-Ok-Some.steps
    (subst (IsLog c.args.plan.now (users_of c.args.session.now.users)) c.in-Ok-Some.field-0-is c.in-Ok-Some.ensures)
    refl

pub returns-in-Ok-None : goal.returns-in-Ok-None
returns-in-Ok-None c =
    broken c.status.result
    (subst (IsLog c.args.plan.now (users_of c.args.session.now.users)) c.in-Ok-None.field-0-is c.in-Ok-None.ensures)
    c.status.ensures (ap (Shown c.status.result) c.new.ensures)
