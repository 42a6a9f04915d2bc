use Rattle.vc_compile_laws.proofs.TypedLaws.{has_sizes}
use Rattle.vc_compile_laws.proofs.laws.compiled_plans_have_sizes.Goals as goal

pub returns : goal.returns
returns c = has_sizes
