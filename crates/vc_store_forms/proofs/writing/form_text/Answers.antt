-- The text is that of the value, which has no number with a point.
use Rattle.std.proofs.Common.{◌≡◌, ap, ◌∙◌, false}
use Rattle.std.proofs.lemmas.Result.{IfOk-weaker}
use Rattle.serde_json.specs.View.{view}
use Rattle.serde_json.specs.Written.{compact_text, has_float}
use Rattle.vc_store_forms.specs.Forms.{Saved, form_text, saved_data}
use Rattle.vc_store_forms.proofs.FormLaws.{form_plain}
use Rattle.vc_store_forms.proofs.writing.form_text.Goals as goal

pub returns : goal.returns
returns c = λ choices same.
    let saved : Saved = record { model = c.args.model.now; version = c.args.version; choices = choices } in
    let value : view c.in_ok-saved_value.field-0 ≡ saved_data saved = c.in_ok-saved_value.ensures choices same in
    IfOk-weaker c.to_vec.result
    (λ text. has_float (view c.in_ok-saved_value.field-0) ≡ false
    → text.items ≡ compact_text (view c.in_ok-saved_value.field-0))
    (λ text. text.items ≡ form_text saved)
    (λ text written. written (ap has_float value ∙ form_plain saved) ∙ ap compact_text value) c.to_vec.ensures.text
