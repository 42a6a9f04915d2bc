-- It is told of the session of the name, or none has the name.
use Rattle.std.proofs.Common.{◌∙◌, ap, sym}
use Rattle.std.specs.Option.{option_copied}
use Rattle.vc_desk_session.specs.Telling.{text_told, told_as}
use Rattle.vc_desk.proofs.AnswerLaws.{tells_none, tells_one}
use Rattle.vc_desk.proofs.sessions.Sessions.tell.Goals as goal

pub returns-in-Some : goal.returns-in-Some
returns-in-Some c =
    tells_one c.args.self.now c.args.name.now c.args.plan.now (told_as c.args.what) (text_told c.args.what)
    c.in-Some.session.now c.tell.result (sym c.find.ensures ∙ ap option_copied c.in-Some.is) c.tell.ensures

pub returns-in-None : goal.returns-in-None
returns-in-None c =
    tells_none c.args.self.now c.args.name.now c.args.plan.now (told_as c.args.what) (text_told c.args.what)
    c.refused.result (sym c.find.ensures ∙ ap option_copied c.in-None.is) c.refused.ensures
