use Rattle.vc_compile_laws.proofs.TextLaws.{has_texts}
use Rattle.vc_compile_laws.proofs.laws.compiled_plans_have_texts.Goals as goal

pub returns : goal.returns
returns c = has_texts
