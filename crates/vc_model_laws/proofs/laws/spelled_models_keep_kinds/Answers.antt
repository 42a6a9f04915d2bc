use Rattle.vc_model_laws.proofs.SpelledLaws.{spelled_keeps_kinds}
use Rattle.vc_model_laws.proofs.laws.spelled_models_keep_kinds.Goals as goal

pub returns : goal.returns
returns c = spelled_keeps_kinds
