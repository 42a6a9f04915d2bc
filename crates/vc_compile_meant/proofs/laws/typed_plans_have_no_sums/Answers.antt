use Rattle.vc_compile_meant.proofs.SumLaws.{has_no_sums}
use Rattle.vc_compile_meant.proofs.laws.typed_plans_have_no_sums.Goals as goal

pub returns : goal.returns
returns c = has_no_sums
