-- What was chosen is replaced by what the text gives, or none has the name, or it is said why not.
use Rattle.std.proofs.Common.{◌∙◌, ap, false, not, refl, subst, sym, Err, Ok}
use Rattle.std.specs.FinMap.{get}
use Rattle.vc_wire_replies.specs.declared.reply.Refusal.TheVariants.{NoSession}
use Rattle.vc_desk_shown.specs.Standing.{standing_of}
use Rattle.vc_desk.specs.Answers.{EditsSession}
use Rattle.vc_desk.specs.Costing.{unedited}
use Rattle.vc_desk.specs.Desks.{open_of, state_of}
use Rattle.vc_desk.specs.Saved.{LoadsSession}
use Rattle.vc_desk.proofs.AnswerLaws.{none_stands, one_stands, one_copied, some_copied}
use Rattle.vc_desk.proofs.OpenLaws.{is_none_at}
use Rattle.vc_desk.proofs.SavedLaws.{loads_by}
use Rattle.vc_desk.proofs.saved.load.Goals as goal

pub returns-then-is_none-clause-loads : goal.returns-then-is_none-clause-loads
returns-then-is_none-clause-loads g c =
    let sessions = c.args.sessions.now in
    let session = c.args.session.now in
    let state = state_of sessions (g.K.Keeper.texts c.args.keeper.now) (g.K.Keeper.faults c.args.keeper.now) in
    let none = is_none_at (get sessions session)
    (some_copied c.find.result (get sessions session) false c.find.ensures
    (c.is_none.ensures ∙ ap not c.if-is_none.true)) in
    subst (λ o. LoadsSession c.args.plan.now state session c.args.name.now o c.refused.result state)
    (sym (none_stands sessions session none)) (c.refused.ensures, refl)

pub returns-then-is_none-clause-spends : goal.returns-then-is_none-clause-spends
returns-then-is_none-clause-spends g c = unedited NoSession c.refused.ensures refl refl

pub returns-in-Ok-clause-loads : goal.returns-in-Ok-clause-loads
returns-in-Ok-clause-loads g c =
    let texts = g.K.Keeper.texts in
    let faults = g.K.Keeper.faults in
    let before = c.args.keeper.now in
    let after = c.load_users.new.keeper in
    let plan = c.args.plan.now in
    let sessions = c.args.sessions.now in
    let session = c.args.session.now in
    let one = one_copied c.find.result (get sessions session) c.find.ensures
    (c.is_none.ensures ∙ ap not c.if-is_none.false) in
    let stands = one_stands sessions session one.0 one.1 in
    subst (λ o. LoadsSession plan (state_of sessions (texts before) (faults before)) session c.args.name.now o
    c.edit.result (state_of c.edit.new.self (texts after) (faults after))) (sym stands)
    (loads_by (open_of sessions) (texts before) (texts after) (faults before) (faults after) plan session
    c.args.name.now (standing_of one.0) (Ok c.in-Ok.users) c.edit.result (open_of c.edit.new.self) c.in-Ok.ensures.loads
    (subst (λ o. EditsSession plan (open_of sessions) session (λ _. Ok c.in-Ok.users) o c.edit.result
    (open_of c.edit.new.self)) stands c.edit.ensures.edits))

pub returns-in-Err-clause-loads : goal.returns-in-Err-clause-loads
returns-in-Err-clause-loads g c =
    let texts = g.K.Keeper.texts in
    let faults = g.K.Keeper.faults in
    let before = c.args.keeper.now in
    let after = c.load_users.new.keeper in
    let plan = c.args.plan.now in
    let sessions = c.args.sessions.now in
    let session = c.args.session.now in
    let one = one_copied c.find.result (get sessions session) c.find.ensures
    (c.is_none.ensures ∙ ap not c.if-is_none.false) in
    subst (λ o. LoadsSession plan (state_of sessions (texts before) (faults before)) session c.args.name.now o
    c.refused-in-Err.result (state_of sessions (texts after) (faults after)))
    (sym (one_stands sessions session one.0 one.1))
    (loads_by (open_of sessions) (texts before) (texts after) (faults before) (faults after) plan session
    c.args.name.now (standing_of one.0) (Err c.in-Err.refusal) c.refused-in-Err.result (open_of sessions)
    c.in-Err.ensures.loads (c.refused-in-Err.ensures, refl))

pub returns-in-Err-clause-spends : goal.returns-in-Err-clause-spends
returns-in-Err-clause-spends g c = unedited c.in-Err.refusal c.refused-in-Err.ensures refl refl
