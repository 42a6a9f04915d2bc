use Rattle.vc_compile_laws.proofs.GuardLaws.{has_guards}
use Rattle.vc_compile_laws.proofs.laws.compiled_plans_have_guards.Goals as goal

pub returns : goal.returns
returns c = has_guards
