use Rattle.vc_compile_laws.proofs.ValidLaws.{has_amounts}
use Rattle.vc_compile_laws.proofs.laws.compiled_plans_have_amounts.Goals as goal

pub returns : goal.returns
returns c = has_amounts
