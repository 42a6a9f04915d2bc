-- A text was taken away, or none was there.
use Rattle.std.proofs.Common.{false, subst, sym, true, Ok}
use Rattle.vc_outside.specs.Keepers.{Forgets}
use Rattle.vc_wire_replies.specs.declared.reply.Reply.TheVariants.{Forgotten}
use Rattle.vc_desk.specs.Saved.{ForgetsSaved}
use Rattle.vc_desk.specs.States.{kept}
use Rattle.vc_desk.proofs.SavedLaws.{forgets_done}
use Rattle.vc_desk.proofs.saved.forget.Goals as goal

pub returns-in-Ok-true-clause-forgets : goal.returns-in-Ok-true-clause-forgets
returns-in-Ok-true-clause-forgets g c = λ sessions.
    let texts = g.K.Keeper.texts in
    let faults = g.K.Keeper.faults in
    let before = c.args.keeper.now in
    let after = c.remove.new.self in
    subst (λ name. ForgetsSaved (kept sessions (texts before) (faults before)) name Forgotten
    (kept sessions (texts after) (faults after))) c.bytes.ensures
    (forgets_done sessions (texts before) (texts after) (faults before) (faults after) c.bytes.result.now true
    (subst (λ there. Forgets (texts before) (texts after) c.bytes.result.now (Ok there)) c.in-Ok-true.field-0-test
    c.in-Ok-true.ensures.texts) c.in-Ok-true.ensures.cause.raises)

pub returns-in-Ok-false-clause-forgets : goal.returns-in-Ok-false-clause-forgets
returns-in-Ok-false-clause-forgets g c = λ sessions.
    let texts = g.K.Keeper.texts in
    let faults = g.K.Keeper.faults in
    let before = c.args.keeper.now in
    let after = c.remove.new.self in
    subst (λ name. ForgetsSaved (kept sessions (texts before) (faults before)) name c.refused.result
    (kept sessions (texts after) (faults after))) c.bytes.ensures
    (subst (λ reply. ForgetsSaved (kept sessions (texts before) (faults before)) c.bytes.result.now reply
    (kept sessions (texts after) (faults after))) (sym c.refused.ensures)
    (forgets_done sessions (texts before) (texts after) (faults before) (faults after) c.bytes.result.now false
    (subst (λ there. Forgets (texts before) (texts after) c.bytes.result.now (Ok there)) c.in-Ok-false.field-0-test
    c.in-Ok-false.ensures.texts) c.in-Ok-false.ensures.cause.raises))
