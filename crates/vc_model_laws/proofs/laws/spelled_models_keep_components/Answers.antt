use Rattle.vc_model_laws.proofs.SpelledLaws.{spelled_keeps_components}
use Rattle.vc_model_laws.proofs.laws.spelled_models_keep_components.Goals as goal

pub returns : goal.returns
returns c = spelled_keeps_components
