use Rattle.vc_compile_laws.proofs.WordLaws.{has_words}
use Rattle.vc_compile_laws.proofs.laws.compiled_plans_have_words.Goals as goal

pub returns : goal.returns
returns c = has_words
