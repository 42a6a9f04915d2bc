use Rattle.vc_model_laws.proofs.SpelledLaws.{spelled_keeps_texts}
use Rattle.vc_model_laws.proofs.laws.spelled_models_keep_texts.Goals as goal

pub returns : goal.returns
returns c = spelled_keeps_texts
