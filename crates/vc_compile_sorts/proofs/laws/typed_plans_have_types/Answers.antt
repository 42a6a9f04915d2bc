use Rattle.vc_compile_sorts.proofs.TypedLaws.{has_types}
use Rattle.vc_compile_sorts.proofs.laws.typed_plans_have_types.Goals as goal

pub returns : goal.returns
returns c = has_types
