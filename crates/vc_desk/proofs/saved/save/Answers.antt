-- What is chosen in the session is saved, or none has the name.
use Rattle.std.proofs.Common.{◌∙◌, ap, refl, subst, sym, Err, Ok}
use Rattle.std.specs.Option.{option_copied}
use Rattle.vc_wire_replies.specs.declared.reply.Reply.TheVariants.{Saved}
use Rattle.vc_desk_shown.specs.Standing.{standing_of}
use Rattle.vc_desk.specs.Desks.{open_of, state_of}
use Rattle.vc_desk.specs.Saved.{IsSaved, SavesSession}
use Rattle.vc_desk.proofs.AnswerLaws.{none_stands, one_stands}
use Rattle.vc_desk.proofs.SavedLaws.{saves_done, saves_failed}
use Rattle.vc_desk.proofs.saved.save.Goals as goal
use Rattle.vc_store.specs.Saving.{saved_text}

pub returns-in-Ok-clause-saves : goal.returns-in-Ok-clause-saves
returns-in-Ok-clause-saves g c =
    let texts = g.K.Keeper.texts in
    let faults = g.K.Keeper.faults in
    let before = c.args.keeper.now in
    let after = c.save_users.new.keeper in
    let sessions = c.args.sessions.now in
    let found = c.in-Some.found.now in
    subst (λ o. SavesSession c.args.plan.now (state_of sessions (texts before) (faults before)) c.args.name.now o Saved
    (state_of sessions (texts after) (faults after)))
    (sym (one_stands sessions c.args.session.now found (sym c.find.ensures ∙ ap option_copied c.in-Some.is)))
    (saves_done (open_of sessions) (texts before) (texts after) (faults before) (faults after) c.args.plan.now
    c.args.name.now (standing_of found) tt
    (subst (λ users. IsSaved (texts before) (texts after) (faults before) (faults after) c.args.name.now
    (saved_text c.args.plan.now users) (Ok tt)) c.users.ensures c.in-Ok.ensures.saves))

pub returns-in-Err-clause-saves : goal.returns-in-Err-clause-saves
returns-in-Err-clause-saves g c =
    let texts = g.K.Keeper.texts in
    let faults = g.K.Keeper.faults in
    let before = c.args.keeper.now in
    let after = c.save_users.new.keeper in
    let sessions = c.args.sessions.now in
    let found = c.in-Some.found.now in
    subst (λ o. SavesSession c.args.plan.now (state_of sessions (texts before) (faults before)) c.args.name.now o
    c.refused.result (state_of sessions (texts after) (faults after)))
    (sym (one_stands sessions c.args.session.now found (sym c.find.ensures ∙ ap option_copied c.in-Some.is)))
    (saves_failed (open_of sessions) (texts before) (texts after) (faults before) (faults after) c.args.plan.now
    c.args.name.now (standing_of found) c.in-Err.refusal c.refused.result
    (subst (λ users. IsSaved (texts before) (texts after) (faults before) (faults after) c.args.name.now
    (saved_text c.args.plan.now users) (Err c.in-Err.refusal)) c.users.ensures c.in-Err.ensures.saves)
    c.refused.ensures)

pub returns-in-None-clause-saves : goal.returns-in-None-clause-saves
returns-in-None-clause-saves g c =
    let texts = g.K.Keeper.texts in
    let faults = g.K.Keeper.faults in
    let before = c.args.keeper.now in
    let sessions = c.args.sessions.now in
    let state = state_of sessions (texts before) (faults before) in
    subst (λ o. SavesSession c.args.plan.now state c.args.name.now o c.refused-in-None.result state)
    (sym (none_stands sessions c.args.session.now (sym c.find.ensures ∙ ap option_copied c.in-None.is)))
    (c.refused-in-None.ensures, refl)
