use Rattle.vc_compile_laws.proofs.ValidLaws.{has_few_procedures}
use Rattle.vc_compile_laws.proofs.laws.compiled_plans_have_few_procedures.Goals as goal

pub returns : goal.returns
returns c = has_few_procedures
