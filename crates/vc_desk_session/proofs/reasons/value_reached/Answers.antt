-- What the session has is what the evaluation reaches.
use Rattle.std.proofs.Common.{◌∙◌, sym}
use Rattle.vc_desk_session.proofs.AskingLaws.{value_there}
use Rattle.vc_desk_session.proofs.reasons.value_reached.Goals as goal

pub returns-in-None : goal.returns-in-None
returns-in-None c =
    c.value.ensures
    ∙ value_there c.args.plan.now c.args.session.now c.args.var c.requires.valid c.requires.of
    (sym c.broken.ensures ∙ c.in-None.is)
