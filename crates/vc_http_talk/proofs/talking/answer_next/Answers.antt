-- What came is answered, or said to have ended.
use Rattle.std.proofs.Common.{◌+◌, refl}
use Rattle.vc_desk.specs.Desks.{state_of}
use Rattle.vc_http.specs.declared.turns.Turn.TheVariants as turn
use Rattle.vc_http_talk.specs.Talk.{untouched}
use Rattle.vc_http_talk.proofs.CourseLaws.{comes_end, comes_not, comes_so}
use Rattle.vc_http_talk.proofs.talking.answer_next.Goals as goal

pub returns-in-Asked-clause-comes : goal.returns-in-Asked-clause-comes
returns-in-Asked-clause-comes g c =
    let texts = g.K.Keeper.texts in
    let failures = g.K.Keeper.faults in
    let written = g.L.Link.written in
    let faults = g.L.Link.faults in
    comes_so c.args.desk.now.plan (c.args.answered + 1)
    (state_of c.args.desk.now.sessions (texts c.args.keeper.now) (failures c.args.keeper.now))
    (state_of c.answer_request-came.new.desk.sessions (texts c.answer_request-came.new.keeper)
    (failures c.answer_request-came.new.keeper))
    c.args.buffer.now (g.L.Link.left c.args.link.now) c.next_request.new.buffer
    (g.L.Link.left c.next_request.new.link) (g.L.Link.left c.answer_request-came.new.link)
    (written c.args.link.now) (written c.next_request.new.link) (written c.answer_request-came.new.link)
    (faults c.args.link.now) (faults c.next_request.new.link) (faults c.answer_request-came.new.link)
    (turn.Asked c.in-Asked.request c.in-Asked.keep) c.answer_request-came.result c.in-Asked.ensures.comes
    c.answer_request-came.ensures.left c.in-Asked.ensures.written c.in-Asked.ensures.cause
    (λ bytes behind gives. c.answer_request-came.ensures.answers (c.args.answered + 1) c.in-Asked.keep bytes behind
    c.goes_on-goes.ensures gives)

pub returns-in-Bad-clause-comes : goal.returns-in-Bad-clause-comes
returns-in-Bad-clause-comes g c =
    let state = state_of c.args.desk.now.sessions (g.K.Keeper.texts c.args.keeper.now)
    (g.K.Keeper.faults c.args.keeper.now) in
    let written = g.L.Link.written in
    let faults = g.L.Link.faults in
    comes_so c.args.desk.now.plan (c.args.answered + 1) state state
    c.args.buffer.now (g.L.Link.left c.args.link.now) c.next_request.new.buffer
    (g.L.Link.left c.next_request.new.link) (g.L.Link.left c.refuse.new.link)
    (written c.args.link.now) (written c.next_request.new.link) (written c.refuse.new.link)
    (faults c.args.link.now) (faults c.next_request.new.link) (faults c.refuse.new.link)
    (turn.Bad c.in-Bad.status c.in-Bad.allow) c.refuse.result c.in-Bad.ensures.comes
    c.refuse.ensures.left c.in-Bad.ensures.written c.in-Bad.ensures.cause
    (λ bytes behind gives. c.refuse.ensures.refuses c.args.desk.now.plan (c.args.answered + 1) state bytes behind
    gives.0)

pub returns-in-End-clause-comes : goal.returns-in-End-clause-comes
returns-in-End-clause-comes g c =
    comes_end c.args.desk.now.plan (c.args.answered + 1)
    (state_of c.args.desk.now.sessions (g.K.Keeper.texts c.args.keeper.now) (g.K.Keeper.faults c.args.keeper.now))
    c.args.buffer.now (g.L.Link.left c.args.link.now) c.next_request.new.buffer
    (g.L.Link.left c.next_request.new.link) (g.L.Link.written c.args.link.now)
    (g.L.Link.written c.next_request.new.link) (g.L.Link.faults c.args.link.now)
    (g.L.Link.faults c.next_request.new.link) c.in-End.ensures.comes c.in-End.ensures.written c.in-End.ensures.cause

pub returns-in-Failed-clause-comes : goal.returns-in-Failed-clause-comes
returns-in-Failed-clause-comes g c =
    comes_not c.args.desk.now.plan (c.args.answered + 1)
    (state_of c.args.desk.now.sessions (g.K.Keeper.texts c.args.keeper.now) (g.K.Keeper.faults c.args.keeper.now))
    c.args.buffer.now (g.L.Link.left c.args.link.now) c.next_request.new.buffer
    (g.L.Link.left c.next_request.new.link) (g.L.Link.written c.args.link.now)
    (g.L.Link.written c.next_request.new.link) (g.L.Link.faults c.args.link.now)
    (g.L.Link.faults c.next_request.new.link) c.in-Failed.ensures.comes c.in-Failed.ensures.written
    c.in-Failed.ensures.cause

pub returns-in-OutOfMemory-clause-comes : goal.returns-in-OutOfMemory-clause-comes
returns-in-OutOfMemory-clause-comes g c =
    let state = state_of c.args.desk.now.sessions (g.K.Keeper.texts c.args.keeper.now)
    (g.K.Keeper.faults c.args.keeper.now) in
    let written = g.L.Link.written in
    let faults = g.L.Link.faults in
    comes_so c.args.desk.now.plan (c.args.answered + 1) state state
    c.args.buffer.now (g.L.Link.left c.args.link.now) c.next_request.new.buffer
    (g.L.Link.left c.next_request.new.link) (g.L.Link.left c.excuse.new.link)
    (written c.args.link.now) (written c.next_request.new.link) (written c.excuse.new.link)
    (faults c.args.link.now) (faults c.next_request.new.link) (faults c.excuse.new.link)
    turn.OutOfMemory c.excuse.result c.in-OutOfMemory.ensures.comes
    c.excuse.ensures.left c.in-OutOfMemory.ensures.written c.in-OutOfMemory.ensures.cause
    (λ bytes behind gives. c.excuse.ensures.excuses c.args.desk.now.plan (c.args.answered + 1) state bytes state behind
    (untouched refl))
