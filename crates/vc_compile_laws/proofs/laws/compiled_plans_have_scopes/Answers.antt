use Rattle.vc_compile_laws.proofs.ValidLaws.{has_scopes}
use Rattle.vc_compile_laws.proofs.laws.compiled_plans_have_scopes.Goals as goal

pub returns : goal.returns
returns c = has_scopes
