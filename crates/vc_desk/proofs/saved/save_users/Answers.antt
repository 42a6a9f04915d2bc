-- The text of what the user chose is put under the name.
use Rattle.std.proofs.Common.{◌∙◌, ◌≡◌, subst}
use Rattle.std.specs.FinMap.{insert}
use Rattle.vc_desk.specs.States.{HoldsOfSaved}
use Rattle.vc_desk.proofs.SavedLaws.{put_holds}
use Rattle.vc_desk.proofs.saved.save_users.Goals as goal
use Rattle.vc_store.specs.Saving.{saved_text}

pub returns-in-Ok-clause-saves : goal.returns-in-Ok-clause-saves
returns-in-Ok-clause-saves g c =
    let before = g.K.Keeper.texts c.args.keeper.now in
    let after = g.K.Keeper.texts c.put.new.self in
    let text = saved_text c.args.plan.now c.args.users.now in (
      c.in-Ok.ensures.cause.raises,
      subst (λ name. HoldsOfSaved before after (λ texts next. next ≡ insert texts name text)) c.bytes.ensures
          (subst (λ put. HoldsOfSaved before after (λ texts next. next ≡ insert texts c.bytes.result.now put))
          (c.bytes-2.ensures ∙ c.in_ok-text.ensures.text)
          (put_holds before after c.bytes.result.now c.bytes-2.result.now tt c.in-Ok.ensures.texts)),
    )
