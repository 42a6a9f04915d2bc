use Rattle.vc_compile_laws.proofs.ListedLaws.{has_lists}
use Rattle.vc_compile_laws.proofs.laws.compiled_plans_have_lists.Goals as goal

pub returns : goal.returns
returns c = has_lists
