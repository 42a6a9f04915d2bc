use Rattle.vc_compile_laws.proofs.SlotLaws.{has_slots}
use Rattle.vc_compile_laws.proofs.laws.compiled_plans_have_slots.Goals as goal

pub returns : goal.returns
returns c = has_slots
