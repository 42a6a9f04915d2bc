-- The text is the one that is asked for.
use Rattle.std.proofs.Common.{◌∙◌, ap}
use Rattle.vc_desk_session.specs.Telling.{told_as, told}
use Rattle.vc_desk_session.proofs.telling.tell.Goals as goal

pub returns-in-Ok : goal.returns-in-Ok
returns-in-Ok c =
    told c.status.result c.status.ensures
    (c.reply_with.ensures ∙ ap (told_as c.args.what c.status.result) c.in-Ok.ensures)
