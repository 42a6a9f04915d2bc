use Rattle.vc_compile_meant.proofs.ScopeRecords.{has_own_slots}
use Rattle.vc_compile_meant.proofs.laws.typed_plans_have_own_slots.Goals as goal

pub returns : goal.returns
returns c = has_own_slots
