use Rattle.vc_compile_valid.proofs.CountLaws.{has_few_procedures}
use Rattle.vc_compile_valid.proofs.laws.plans_have_few_procedures.Goals as goal

pub returns : goal.returns
returns c = has_few_procedures
