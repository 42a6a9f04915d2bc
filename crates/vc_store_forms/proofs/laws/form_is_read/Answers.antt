-- The law is proved over the definitions.
use Rattle.vc_store_forms.proofs.BackLaws.{form_is_read}
use Rattle.vc_store_forms.proofs.laws.form_is_read.Goals as goal

pub returns : goal.returns
returns c = form_is_read
