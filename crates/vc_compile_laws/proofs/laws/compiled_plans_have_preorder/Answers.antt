use Rattle.vc_compile_laws.proofs.ValidLaws.{has_preorder}
use Rattle.vc_compile_laws.proofs.laws.compiled_plans_have_preorder.Goals as goal

pub returns : goal.returns
returns c = has_preorder
