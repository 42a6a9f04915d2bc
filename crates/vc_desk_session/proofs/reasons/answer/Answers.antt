-- By what is asked.
use Rattle.std.proofs.Common.{subst, sym}
use Rattle.vc_desk_shown.specs.Standing.{standing_of}
use Rattle.vc_desk_session.specs.Reasons.{IsAnswerTo, asked_by}
use Rattle.vc_desk_session.proofs.reasons.answer.Goals as goal

pub returns-in-Conflict : goal.returns-in-Conflict
returns-in-Conflict c =
    subst
    (λ question. IsAnswerTo c.args.plan.now (asked_by question) (standing_of c.args.session.now) c.conflict.result)
    (sym c.in-Conflict.is) c.conflict.ensures

pub returns-in-Log : goal.returns-in-Log
returns-in-Log c =
    subst (λ question. IsAnswerTo c.args.plan.now (asked_by question) (standing_of c.args.session.now) c.log.result)
    (sym c.in-Log.is) c.log.ensures
