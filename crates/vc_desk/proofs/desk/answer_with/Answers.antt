-- Each request is the one that asks for the task that is served.
use Rattle.std.proofs.Common.{◌∙◌, ap, refl, subst, sym}
use Rattle.vc_desk.specs.Answers.{Apply, LeavesKeeper}
use Rattle.vc_desk.specs.Costing.{AnswerSpends}
use Rattle.vc_desk.specs.Desks.{open_of, state_of}
use Rattle.vc_desk.specs.Tasks.{request_of}
use Rattle.vc_desk.proofs.TaskLaws.{edit_applies, edit_costs, may_edit, reason_applies, reason_costs, same_request}
use Rattle.vc_desk.proofs.TaskLaws.{told_applies, told_costs}
use Rattle.vc_desk.proofs.desk.answer_with.Goals as goal

pub edit-requires-clause-may : goal.edit-requires-clause-may
edit-requires-clause-may g c =
    may_edit c.args.plan.now c.in-Edit.session.now c.in-Edit.edit c.args.request.now
    (ap request_of (sym c.in-Edit.is) ∙ c.task_of.ensures)

pub returns-in-Start-clause-applies : goal.returns-in-Start-clause-applies
returns-in-Start-clause-applies g c =
    let texts = g.K.Keeper.texts in
    let faults = g.K.Keeper.faults in
    let before = c.args.keeper.now in
    subst (λ request. Apply c.args.plan.now (state_of c.args.sessions.now (texts before) (faults before)) request
    c.open.result (state_of c.open.new.self (texts before) (faults before)))
    (same_request (ap request_of (sym c.in-Start.is) ∙ c.task_of.ensures)) (c.open.ensures.starts, (refl, refl))

pub returns-in-Start-clause-spends : goal.returns-in-Start-clause-spends
returns-in-Start-clause-spends g c =
    subst (λ request. AnswerSpends c.args.plan.now c.args.sessions.now request c.open.result c.open.new.self
    c.args.steps.now c.args.steps.now)
    (same_request (ap request_of (sym c.in-Start.is) ∙ c.task_of.ensures)) (c.open.ensures.opens, refl)

pub returns-in-Close-clause-applies : goal.returns-in-Close-clause-applies
returns-in-Close-clause-applies g c =
    let texts = g.K.Keeper.texts in
    let faults = g.K.Keeper.faults in
    let before = c.args.keeper.now in
    subst (λ request. Apply c.args.plan.now (state_of c.args.sessions.now (texts before) (faults before)) request
    c.close.result (state_of c.close.new.self (texts before) (faults before)))
    (same_request (ap request_of (sym c.in-Close.is) ∙ c.task_of.ensures)) (c.close.ensures.closes, (refl, refl))

pub returns-in-Close-clause-spends : goal.returns-in-Close-clause-spends
returns-in-Close-clause-spends g c =
    subst (λ request. AnswerSpends c.args.plan.now c.args.sessions.now request c.close.result c.close.new.self
    c.args.steps.now c.args.steps.now)
    (same_request (ap request_of (sym c.in-Close.is) ∙ c.task_of.ensures)) (c.close.ensures.gone, refl)

pub returns-in-Edit-clause-applies : goal.returns-in-Edit-clause-applies
returns-in-Edit-clause-applies g c =
    let texts = g.K.Keeper.texts in
    let faults = g.K.Keeper.faults in
    let before = c.args.keeper.now in
    edit_applies c.args.plan.now (state_of c.args.sessions.now (texts before) (faults before))
    (state_of c.edit.new.self (texts before) (faults before)) c.in-Edit.session.now c.edit.result c.in-Edit.edit
    c.args.request.now (ap request_of (sym c.in-Edit.is) ∙ c.task_of.ensures) c.edit.ensures.edits (refl, refl)

pub returns-in-Edit-clause-spends : goal.returns-in-Edit-clause-spends
returns-in-Edit-clause-spends g c =
    edit_costs c.args.plan.now c.in-Edit.session.now c.args.sessions.now c.edit.new.self c.edit.result
    c.args.steps.now c.edit.new.steps c.in-Edit.edit c.args.request.now
    (ap request_of (sym c.in-Edit.is) ∙ c.task_of.ensures) c.edit.ensures.spends

pub returns-in-Tell-clause-applies : goal.returns-in-Tell-clause-applies
returns-in-Tell-clause-applies g c =
    let texts = g.K.Keeper.texts in
    let faults = g.K.Keeper.faults in
    let before = c.args.keeper.now in
    subst (λ request. Apply c.args.plan.now (state_of c.args.sessions.now (texts before) (faults before)) request
    c.tell.result (state_of c.args.sessions.now (texts before) (faults before)))
    (same_request (ap request_of (sym c.in-Tell.is) ∙ c.task_of.ensures))
    (told_applies c.args.plan.now (state_of c.args.sessions.now (texts before) (faults before))
    (state_of c.args.sessions.now (texts before) (faults before)) c.in-Tell.session.now c.tell.result c.in-Tell.what
    c.tell.ensures)

pub returns-in-Tell-clause-spends : goal.returns-in-Tell-clause-spends
returns-in-Tell-clause-spends g c =
    subst (λ request. AnswerSpends c.args.plan.now c.args.sessions.now request c.tell.result c.args.sessions.now
    c.args.steps.now c.args.steps.now) (same_request (ap request_of (sym c.in-Tell.is) ∙ c.task_of.ensures))
    (told_costs c.args.plan.now c.in-Tell.session.now c.args.sessions.now c.tell.result c.args.steps.now
    c.in-Tell.what)

pub returns-in-Explain-clause-applies : goal.returns-in-Explain-clause-applies
returns-in-Explain-clause-applies g c =
    let texts = g.K.Keeper.texts in
    let faults = g.K.Keeper.faults in
    let before = c.args.keeper.now in
    subst (λ request. Apply c.args.plan.now (state_of c.args.sessions.now (texts before) (faults before)) request
    c.explain.result (state_of c.args.sessions.now (texts before) (faults before)))
    (same_request (ap request_of (sym c.in-Explain.is) ∙ c.task_of.ensures))
    (reason_applies c.args.plan.now (state_of c.args.sessions.now (texts before) (faults before))
    (state_of c.args.sessions.now (texts before) (faults before)) c.in-Explain.session.now c.explain.result
    c.in-Explain.question c.explain.ensures)

pub returns-in-Explain-clause-spends : goal.returns-in-Explain-clause-spends
returns-in-Explain-clause-spends g c =
    subst (λ request. AnswerSpends c.args.plan.now c.args.sessions.now request c.explain.result c.args.sessions.now
    c.args.steps.now c.args.steps.now) (same_request (ap request_of (sym c.in-Explain.is) ∙ c.task_of.ensures))
    (reason_costs c.args.plan.now c.in-Explain.session.now c.args.sessions.now c.explain.result c.args.steps.now
    c.in-Explain.question)

pub returns-in-Save-clause-applies : goal.returns-in-Save-clause-applies
returns-in-Save-clause-applies g c =
    let texts = g.K.Keeper.texts in
    let faults = g.K.Keeper.faults in
    let before = c.args.keeper.now in
    let after = c.save.new.keeper in
    subst (λ request. Apply c.args.plan.now (state_of c.args.sessions.now (texts before) (faults before)) request
    c.save.result (state_of c.args.sessions.now (texts after) (faults after)))
    (same_request (ap request_of (sym c.in-Save.is) ∙ c.task_of.ensures)) c.save.ensures.saves

pub returns-in-Save-clause-spends : goal.returns-in-Save-clause-spends
returns-in-Save-clause-spends g c =
    subst (λ request. AnswerSpends c.args.plan.now c.args.sessions.now request c.save.result c.args.sessions.now
    c.args.steps.now c.args.steps.now)
    (same_request (ap request_of (sym c.in-Save.is) ∙ c.task_of.ensures)) (refl, refl)

pub returns-in-Load-clause-applies : goal.returns-in-Load-clause-applies
returns-in-Load-clause-applies g c =
    let texts = g.K.Keeper.texts in
    let faults = g.K.Keeper.faults in
    let before = c.args.keeper.now in
    let after = c.load.new.keeper in
    subst (λ request. Apply c.args.plan.now (state_of c.args.sessions.now (texts before) (faults before)) request
    c.load.result (state_of c.load.new.sessions (texts after) (faults after)))
    (same_request (ap request_of (sym c.in-Load.is) ∙ c.task_of.ensures)) c.load.ensures.loads

pub returns-in-Load-clause-spends : goal.returns-in-Load-clause-spends
returns-in-Load-clause-spends g c =
    subst (λ request. AnswerSpends c.args.plan.now c.args.sessions.now request c.load.result c.load.new.sessions
    c.args.steps.now c.load.new.steps)
    (same_request (ap request_of (sym c.in-Load.is) ∙ c.task_of.ensures)) c.load.ensures.spends

pub returns-in-Forget-clause-applies : goal.returns-in-Forget-clause-applies
returns-in-Forget-clause-applies g c =
    let texts = g.K.Keeper.texts in
    let faults = g.K.Keeper.faults in
    let before = c.args.keeper.now in
    let after = c.forget.new.keeper in
    subst (λ request. Apply c.args.plan.now (state_of c.args.sessions.now (texts before) (faults before)) request
    c.forget.result (state_of c.args.sessions.now (texts after) (faults after)))
    (same_request (ap request_of (sym c.in-Forget.is) ∙ c.task_of.ensures))
    (c.forget.ensures.forgets (open_of c.args.sessions.now))

pub returns-in-Forget-clause-spends : goal.returns-in-Forget-clause-spends
returns-in-Forget-clause-spends g c =
    subst (λ request. AnswerSpends c.args.plan.now c.args.sessions.now request c.forget.result c.args.sessions.now
    c.args.steps.now c.args.steps.now)
    (same_request (ap request_of (sym c.in-Forget.is) ∙ c.task_of.ensures)) (refl, refl)

pub returns-in-Save-clause-keeper : goal.returns-in-Save-clause-keeper
returns-in-Save-clause-keeper g c = λ leaves.
    absurd (subst LeavesKeeper (sym (same_request (ap request_of (sym c.in-Save.is) ∙ c.task_of.ensures))) leaves)

pub returns-in-Load-clause-keeper : goal.returns-in-Load-clause-keeper
returns-in-Load-clause-keeper g c = λ leaves.
    absurd (subst LeavesKeeper (sym (same_request (ap request_of (sym c.in-Load.is) ∙ c.task_of.ensures))) leaves)

pub returns-in-Forget-clause-keeper : goal.returns-in-Forget-clause-keeper
returns-in-Forget-clause-keeper g c = λ leaves.
    absurd (subst LeavesKeeper (sym (same_request (ap request_of (sym c.in-Forget.is) ∙ c.task_of.ensures))) leaves)
