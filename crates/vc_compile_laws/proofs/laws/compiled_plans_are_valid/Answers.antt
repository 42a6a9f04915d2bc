use Rattle.vc_compile_laws.proofs.WholeLaws.{is_valid}
use Rattle.vc_compile_laws.proofs.laws.compiled_plans_are_valid.Goals as goal

pub returns : goal.returns
returns c = is_valid
