-- The text is that of all values put.
use Rattle.std.proofs.Common.{◌≡◌, ◌++◌, map, ap, ◌∙◌}
use Rattle.serde_json.specs.View.{view}
use Rattle.vc_store_forms.specs.Forms.{Saved, choice_data, form_text}
use Rattle.vc_store.specs.Saving.{all_json, saved_of}
use Rattle.vc_store.proofs.SlotLaws.{all_json_is}
use Rattle.vc_store.proofs.writing.save_text.Goals as goal

pub returns : goal.returns
returns c =
    let plan = c.args.plan.now in
    let saved : Saved = saved_of plan c.args.users.now in
    let put : map view c.put_slots.new.out.items ≡ map choice_data saved.choices =
    c.in_ok-put_slots.ensures ∙ ap (λ vs. map view vs ++ all_json plan c.args.users.now) c.new-values.ensures.items
    ∙ all_json_is plan c.args.users.now in
    c.from_vec.ensures ∙ c.in_ok-written.ensures saved.choices put
    ∙ ap (λ name. form_text (record saved { model = name })) c.model_name.ensures
