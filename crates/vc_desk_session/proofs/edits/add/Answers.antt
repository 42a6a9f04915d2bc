-- A session refuses the value just where the edit does.
use Rattle.std.proofs.Common.{◌∙◌, ap, sym}
use Rattle.std.specs.Prelude.{Err, Ok}
use Rattle.std.specs.Option.{ok_or}
use Rattle.vc_session.specs.Edits.{given}
use Rattle.vc_show.proofs.FittingLaws.{valid_plans_show}
use Rattle.vc_wire_replies.specs.declared.reply.Refusal.TheVariants.{NotInList}
use Rattle.vc_desk_names.specs.Meant.{value_named}
use Rattle.vc_desk_session.specs.Edits.{named_for, where_present}
use Rattle.vc_desk_session.proofs.EditLaws.{given_done, given_refused, leads_on, listed_by}
use Rattle.vc_desk_session.proofs.edits.add.Goals as goal

pub named_for-requires : goal.named_for-requires
named_for-requires g c = valid_plans_show c.args.plan.now c.requires.valid

pub returns-in-Ok-clause-edited : goal.returns-in-Ok-clause-edited
returns-in-Ok-clause-edited g c =
    leads_on (named_for c.args.plan.now c.args.instance c.args.name.now)
    (λ n. ok_or (value_named c.args.plan.now n c.args.word.now) NotInList)
    (λ n x. where_present c.args.plan.now c.args.session.now.users n (given c.args.session.now.users n x))
    c.in_ok-named.named c.in_ok-value.value (Ok c.add.new.self.users) c.in_ok-named.ensures c.in_ok-value.ensures
    (given_done c.args.plan.now c.args.session.now c.add.new.self c.in_ok-named.named c.args.word.now
    c.in_ok-value.value
    (given c.args.session.now.users c.in_ok-named.named c.in_ok-value.value) c.requires.valid c.requires.of
    (listed_by (value_named c.args.plan.now c.in_ok-named.named c.args.word.now) NotInList c.in_ok-value.value
    c.in_ok-value.ensures) c.in-Ok.ensures.gives)

pub returns-in-Err-clause-edited : goal.returns-in-Err-clause-edited
returns-in-Err-clause-edited g c = (
  leads_on (named_for c.args.plan.now c.args.instance c.args.name.now)
      (λ n. ok_or (value_named c.args.plan.now n c.args.word.now) NotInList)
      (λ n x. where_present c.args.plan.now c.args.session.now.users n (given c.args.session.now.users n x))
      c.in_ok-named.named c.in_ok-value.value (Err c.refusal_of.result) c.in_ok-named.ensures c.in_ok-value.ensures
      (given_refused c.args.plan.now c.args.session.now c.add.new.self c.in_ok-named.named c.args.word.now
      c.in_ok-value.value
      (given c.args.session.now.users c.in_ok-named.named c.in_ok-value.value) c.requires.valid c.requires.of
      (listed_by (value_named c.args.plan.now c.in_ok-named.named c.args.word.now) NotInList c.in_ok-value.value
      c.in_ok-value.ensures) c.in-Err.fault c.in-Err.ensures.gives ∙ ap Err (sym c.refusal_of.ensures)),
  ap (λ s. s.users) c.in-Err.ensures.gives.1,
)
