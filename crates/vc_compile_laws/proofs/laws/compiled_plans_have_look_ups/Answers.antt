use Rattle.vc_compile_laws.proofs.TypedLaws.{has_look_ups}
use Rattle.vc_compile_laws.proofs.laws.compiled_plans_have_look_ups.Goals as goal

pub returns : goal.returns
returns c = has_look_ups
