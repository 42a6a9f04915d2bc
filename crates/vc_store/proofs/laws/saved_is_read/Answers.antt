-- The law is proved over the definitions, by those of the form.
use Rattle.vc_store.proofs.SavedLaws.{saved_is_read}
use Rattle.vc_store.proofs.laws.saved_is_read.Goals as goal

pub returns : goal.returns
returns c = saved_is_read c.form_is_read.ensures c.form_is_utf8.ensures
