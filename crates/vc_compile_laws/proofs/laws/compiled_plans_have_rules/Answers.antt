use Rattle.vc_compile_laws.proofs.ValidLaws.{has_rules}
use Rattle.vc_compile_laws.proofs.laws.compiled_plans_have_rules.Goals as goal

pub returns : goal.returns
returns c = has_rules
