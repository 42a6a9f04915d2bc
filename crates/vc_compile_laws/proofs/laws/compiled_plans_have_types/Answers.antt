use Rattle.vc_compile_laws.proofs.TypedLaws.{has_types}
use Rattle.vc_compile_laws.proofs.laws.compiled_plans_have_types.Goals as goal

pub returns : goal.returns
returns c = has_types
