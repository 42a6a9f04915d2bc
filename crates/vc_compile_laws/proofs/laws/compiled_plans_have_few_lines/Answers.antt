use Rattle.vc_compile_laws.proofs.AtSlotLaws.{has_few_lines}
use Rattle.vc_compile_laws.proofs.laws.compiled_plans_have_few_lines.Goals as goal

pub returns : goal.returns
returns c = has_few_lines
