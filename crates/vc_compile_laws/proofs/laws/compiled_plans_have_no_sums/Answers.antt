use Rattle.vc_compile_laws.proofs.ValidLaws.{has_no_sums}
use Rattle.vc_compile_laws.proofs.laws.compiled_plans_have_no_sums.Goals as goal

pub returns : goal.returns
returns c = has_no_sums
