use Rattle.vc_compile_laws.proofs.TypedLaws.{has_sums}
use Rattle.vc_compile_laws.proofs.laws.compiled_plans_have_sums.Goals as goal

pub returns : goal.returns
returns c = has_sums
