use Rattle.vc_compile_laws.proofs.ValidLaws.{has_line_slots}
use Rattle.vc_compile_laws.proofs.laws.compiled_plans_have_line_slots.Goals as goal

pub returns : goal.returns
returns c = has_line_slots
