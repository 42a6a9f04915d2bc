-- The request is applied, and its response written, whole or not.
use Rattle.std.proofs.Common.{Err, ◌∙◌, subst}
use Rattle.vc_desk.specs.Desks.{state_of}
use Rattle.vc_http.specs.Answers.{answer}
use Rattle.vc_http_responses.specs.Sending.{Sends}
use Rattle.vc_http_talk.proofs.CourseLaws.{answered_half, answered_not, answered_whole}
use Rattle.vc_http_talk.proofs.talking.answer_request.Goals as goal

pub returns-in-Ok-clause-answers : goal.returns-in-Ok-clause-answers
returns-in-Ok-clause-answers g c =
    let texts = g.K.Keeper.texts in
    let failures = g.K.Keeper.faults in
    answered_whole c.args.desk.now.plan c.plan.result.now
    (state_of c.args.desk.now.sessions (texts c.args.keeper.now) (failures c.args.keeper.now)) c.args.request
    c.args.goes c.answer-reply.result
    (state_of c.answer-reply.new.self.sessions (texts c.answer-reply.new.keeper)
    (failures c.answer-reply.new.keeper))
    (g.L.Link.written c.args.link.now) (g.L.Link.written c.write_reply-sent.new.link)
    (g.L.Link.faults c.args.link.now) (g.L.Link.faults c.write_reply-sent.new.link) c.course_behind.result
    (c.plan.ensures ∙ c.answer-reply.ensures.plan) c.answer-reply.ensures.applies c.in-Ok.ensures.sends
    c.course_behind.ensures

pub returns-in-Failed-clause-answers : goal.returns-in-Failed-clause-answers
returns-in-Failed-clause-answers g c =
    let texts = g.K.Keeper.texts in
    let failures = g.K.Keeper.faults in
    let old = g.L.Link.written c.args.link.now in
    let new = g.L.Link.written c.write_reply-sent.new.link in
    let before = g.L.Link.faults c.args.link.now in
    let now = g.L.Link.faults c.write_reply-sent.new.link in
    answered_half c.args.desk.now.plan c.plan.result.now
    (state_of c.args.desk.now.sessions (texts c.args.keeper.now) (failures c.args.keeper.now)) c.args.request
    c.args.goes c.answer-reply.result
    (state_of c.answer-reply.new.self.sessions (texts c.answer-reply.new.keeper)
    (failures c.answer-reply.new.keeper))
    old new before now (c.plan.ensures ∙ c.answer-reply.ensures.plan) c.answer-reply.ensures.applies
    (subst (λ fault. Sends old new before now (answer c.plan.result.now c.answer-reply.result c.args.goes) (Err fault))
    c.in-Failed.is c.in-Err.ensures.sends)

pub returns-in-OutOfMemory-clause-answers : goal.returns-in-OutOfMemory-clause-answers
returns-in-OutOfMemory-clause-answers g c =
    let texts = g.K.Keeper.texts in
    let failures = g.K.Keeper.faults in
    let old = g.L.Link.written c.args.link.now in
    let mid = g.L.Link.written c.write_reply-sent.new.link in
    let before = g.L.Link.faults c.args.link.now in
    let between = g.L.Link.faults c.write_reply-sent.new.link in
    answered_not c.args.desk.now.plan
    (state_of c.args.desk.now.sessions (texts c.args.keeper.now) (failures c.args.keeper.now)) c.args.request
    c.args.goes c.answer-reply.result
    (state_of c.answer-reply.new.self.sessions (texts c.answer-reply.new.keeper)
    (failures c.answer-reply.new.keeper))
    old mid (g.L.Link.written c.excuse.new.link) before between (g.L.Link.faults c.excuse.new.link) c.excuse.result
    c.answer-reply.ensures.applies
    (subst (λ fault. Sends old mid before between (answer c.plan.result.now c.answer-reply.result c.args.goes)
    (Err fault)) c.in-OutOfMemory.is c.in-Err.ensures.sends)
    c.excuse.ensures.excuses
