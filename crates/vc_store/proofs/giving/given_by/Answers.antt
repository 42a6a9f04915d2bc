-- Nothing is chosen at first; the value at hand is given, and those after it are to come.
use Rattle.std.proofs.Common.{◌+◌, ◌∷◌, Option, map, drop, subst, sym, ap, ◌∙◌}
use Rattle.std.proofs.lemmas.List.{at_drop_more}
use Rattle.serde_json.specs.declared.value.Value.{Value as Json}
use Rattle.vc_store.specs.Marking.{AreFor, given_all, meaning_in}
use Rattle.vc_store.specs.Meaning.{Given}
use Rattle.vc_store.proofs.GivingLaws.{given_step}
use Rattle.vc_store.proofs.MarkLaws.{none_for}
use Rattle.vc_store.proofs.giving.given_by.Goals as goal

pub loop-json-init : goal.loop-json-init
loop-json-init c =
    let plan = c.args.plan.now in (
      subst (AreFor plan) (sym c.in_ok-users.ensures) (none_for plan),
      ap (λ users. given_all users (map (meaning_in plan) c.args.values.now)) c.in_ok-users.ensures,
    )

pub loop-json-preserved : goal.loop-json-preserved
loop-json-preserved c =
    let users = c.loop-json.users in
    let values = c.args.values.now in
    let at = c.loop-json.json-index in
    let json = c.json-item.result in
    let said : Json → Option Given = meaning_in c.args.plan.now in
    let rest = map said (drop (at + 1) values) in (
      c.give_value.ensures.of,
      ap (λ next. given_all next rest) c.give_value.ensures.users
          ∙ sym (given_step users (said json) rest (sym c.give_value.ensures.known ∙ c.if-not-give_value.false))
          ∙ ap (λ x. given_all users (said x ∷ rest)) c.json-item.is
          ∙ sym (at_drop_more (λ xs. given_all users (map said xs)) values at json c.loop-json-test.true)
          ∙ c.loop-json.invariant.1,
    )
