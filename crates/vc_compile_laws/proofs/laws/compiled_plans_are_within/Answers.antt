use Rattle.vc_compile_laws.proofs.SizeLaws.{is_within}
use Rattle.vc_compile_laws.proofs.laws.compiled_plans_are_within.Goals as goal

pub returns : goal.returns
returns c = is_within
