-- A valid plan is shown; the characteristic at hand is put, and those after it are to come.
use Rattle.std.proofs.Common.{◌<◌, ◌++◌, length, map, get_or, ap, subst, ◌∙◌}
use Rattle.serde_json.specs.View.{view}
use Rattle.vc_show.proofs.FittingLaws.{valid_plans_show}
use Rattle.vc_show_rows.specs.Rows.{class_of, named_of}
use Rattle.vc_store.specs.Saving.{json_at, json_of}
use Rattle.vc_store.proofs.SlotLaws.{walk_rest}
use Rattle.vc_store.proofs.writing.put_slot.Goals as goal

pub named_of-named-requires : goal.named_of-named-requires
named_of-named-requires c = valid_plans_show c.args.plan.now c.requires

pub loop-characteristic-preserved : goal.loop-characteristic-preserved
loop-characteristic-preserved c =
    let plan = c.args.plan.now in
    let users = c.args.users.now in
    let slot = c.args.slot in
    let at = c.loop-characteristic.characteristic-index in
    let class = class_of plan slot in
    let same = c.class_of-characteristic-items.ensures in
    let out = map view c.loop-characteristic.out.items in
    let low : at < length class =
    subst (λ cs. at < length cs) same c.loop-characteristic-test.true in
    walk_rest (λ k. json_of plan users slot (named_of plan slot k)) class at 0 out
    (map view c.put_values_of.new.out.items) (map view c.args.out.now.items ++ json_at plan users slot) low
    (c.in_ok-put_values_of.ensures
    ∙ ap (λ named. out ++ json_of plan users slot named)
    (c.named_of-named.ensures ∙ ap (λ cs. named_of plan slot (get_or cs at 0)) same))
    c.loop-characteristic.invariant
