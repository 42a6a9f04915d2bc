-- The session of the name is asked, or none has the name.
use Rattle.std.proofs.Common.{◌∙◌, ap, sym}
use Rattle.std.specs.Option.{option_copied}
use Rattle.vc_desk_session.specs.Reasons.{asked_by}
use Rattle.vc_desk.proofs.AnswerLaws.{asks_none, asks_one}
use Rattle.vc_desk.proofs.sessions.Sessions.explain.Goals as goal

pub returns-in-Some : goal.returns-in-Some
returns-in-Some c =
    asks_one c.args.self.now c.args.name.now c.args.plan.now (asked_by c.args.question) c.in-Some.session.now
    c.answer.result (sym c.find.ensures ∙ ap option_copied c.in-Some.is) c.answer.ensures

pub returns-in-None : goal.returns-in-None
returns-in-None c =
    asks_none c.args.self.now c.args.name.now c.args.plan.now (asked_by c.args.question) c.refused.result
    (sym c.find.ensures ∙ ap option_copied c.in-None.is) c.refused.ensures
