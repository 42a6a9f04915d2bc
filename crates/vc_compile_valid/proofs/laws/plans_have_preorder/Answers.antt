use Rattle.vc_compile_valid.proofs.PreorderLaws.{has_preorder}
use Rattle.vc_compile_valid.proofs.laws.plans_have_preorder.Goals as goal

pub returns : goal.returns
returns c = has_preorder
