use Rattle.vc_compile_meant.proofs.SortLaws.{has_amounts}
use Rattle.vc_compile_meant.proofs.laws.typed_plans_have_amounts.Goals as goal

pub returns : goal.returns
returns c = has_amounts
