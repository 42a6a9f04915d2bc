-- The reply leaves the state, also where there was no memory for its text.
use Rattle.vc_desk.specs.Desks.{state_of}
use Rattle.vc_app_script.proofs.TranscriptLaws.{reply_leaves}
use Rattle.vc_app_script.proofs.transcript.answer_asked.Goals as goal

pub returns-clause-leaves : goal.returns-clause-leaves
returns-clause-leaves g c =
    let texts = g.K.Keeper.texts in
    let faults = g.K.Keeper.faults in
    reply_leaves c.args.desk.now.plan
    (state_of c.args.desk.now.sessions (texts c.args.keeper.now) (faults c.args.keeper.now)) c.args.request
    c.reply_to-reply.result
    (state_of c.reply_to-reply.new.desk.sessions (texts c.reply_to-reply.new.keeper)
    (faults c.reply_to-reply.new.keeper)) c.reply_to-reply.ensures.replies
