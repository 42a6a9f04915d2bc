-- The law is proved over the definitions.
use Rattle.vc_store_forms.proofs.Utf8Laws.{form_is_utf8}
use Rattle.vc_store_forms.proofs.laws.form_is_utf8.Goals as goal

pub returns : goal.returns
returns c = form_is_utf8
