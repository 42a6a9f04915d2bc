use Rattle.vc_compile_laws.proofs.ValidLaws.{has_own_slots}
use Rattle.vc_compile_laws.proofs.laws.compiled_plans_have_own_slots.Goals as goal

pub returns : goal.returns
returns c = has_own_slots
