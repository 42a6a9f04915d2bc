use Rattle.vc_compile_sorts.proofs.SummedLaws.{has_sums}
use Rattle.vc_compile_sorts.proofs.laws.typed_plans_have_sums.Goals as goal

pub returns : goal.returns
returns c = has_sums
