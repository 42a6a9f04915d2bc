use Rattle.vc_compile_laws.proofs.ValidLaws.{has_places}
use Rattle.vc_compile_laws.proofs.laws.compiled_plans_have_places.Goals as goal

pub returns : goal.returns
returns c = has_places
