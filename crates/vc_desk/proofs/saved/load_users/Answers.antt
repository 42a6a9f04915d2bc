-- What the keeper answered is told, or what the text gives.
use Rattle.std.proofs.Common.{refl, subst, sym, None, Ok}
use Rattle.vc_outside.specs.Keepers.{Tells}
use Rattle.vc_desk.specs.Saved.{IsKeeperRefusal, IsLoaded, refused}
use Rattle.vc_desk.proofs.SavedLaws.{is_given, is_loaded, refuses}
use Rattle.vc_desk.proofs.saved.load_users.Goals as goal

pub returns-in-Ok-Some-clause-loads : goal.returns-in-Ok-Some-clause-loads
returns-in-Ok-Some-clause-loads g c =
    let texts = g.K.Keeper.texts in
    let faults = g.K.Keeper.faults in
    let before = c.args.keeper.now in
    let after = c.get.new.self in
    subst (λ name. IsLoaded c.args.plan.now name (texts before) (texts after) (faults before) (faults after)
    c.users_in.result) c.bytes.ensures
    (is_given c.args.plan.now c.bytes.result.now c.in-Ok-Some.text (texts before) (texts after) (faults before)
    (faults after) c.users_in.result c.in-Ok-Some.ensures.texts
    (subst (λ found. Tells (texts before) c.bytes.result.now (Ok found)) c.in-Ok-Some.field-0-is
    c.in-Ok-Some.ensures.told) c.in-Ok-Some.ensures.cause.raises c.users_in.ensures.given)

pub returns-in-Ok-None-clause-loads : goal.returns-in-Ok-None-clause-loads
returns-in-Ok-None-clause-loads g c =
    let texts = g.K.Keeper.texts in
    let faults = g.K.Keeper.faults in
    let before = c.args.keeper.now in
    let after = c.get.new.self in
    subst (λ name. IsLoaded c.args.plan.now name (texts before) (texts after) (faults before) (faults after) _)
    c.bytes.ensures
    (is_loaded c.args.plan.now c.bytes.result.now (texts before) (texts after) (faults before) (faults after) None _
    c.in-Ok-None.ensures.texts
    (subst (λ found. Tells (texts before) c.bytes.result.now (Ok found)) c.in-Ok-None.field-0-is
    c.in-Ok-None.ensures.told) c.in-Ok-None.ensures.cause.raises refl)

pub returns-in-Err-clause-loads : goal.returns-in-Err-clause-loads
returns-in-Err-clause-loads g c =
    let faults = g.K.Keeper.faults in
    refused c.keeper_refusal.result refl
    (subst (IsKeeperRefusal (faults c.args.keeper.now) (faults c.get.new.self)) (sym c.keeper_refusal.ensures)
    (refuses (faults c.args.keeper.now) (faults c.get.new.self) c.in-Err.fault c.in-Err.ensures.cause.raises))
    c.in-Err.ensures.texts
