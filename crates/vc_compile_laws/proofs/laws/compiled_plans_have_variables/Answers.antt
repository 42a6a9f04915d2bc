use Rattle.vc_compile_laws.proofs.VariableLaws.{has_variables}
use Rattle.vc_compile_laws.proofs.laws.compiled_plans_have_variables.Goals as goal

pub returns : goal.returns
returns c = has_variables
